use Rattle.std.proofs.Common.{◌≡◌, sym, ◌∙◌, ap, length, slice_set}
use Rattle.std.proofs.lemmas.Result.{err_from_is_err_and}
use Rattle.mast_world.specs.Content.{overwritten}
use Rattle.mast_world.specs.Count.{counted}
use Rattle.mast_world.specs.StoredFile.{bytes_in, put_in, stored_bytes}
use Rattle.mast_world.proofs.FileEntryLemmas.{find_first, find_written, find_others}
use Rattle.mast_world.proofs.mem_volume.write_entry.Goals as goal

pub overwrite-requires : goal.overwrite-requires
overwrite-requires c =
    rw (find_first c.args.stored.now c.args.file c.args.entry c.index-stored-entry.result c.requires.first) at c.requires.at

pub returns-in_err-overwrite-clause-other_bytes : goal.returns-in_err-overwrite-clause-other_bytes
returns-in_err-overwrite-clause-other_bytes c = λ f other.
    ap bytes_in (find_others c.args.stored.now c.args.file f c.args.entry _ c.requires.first (c.requires.first.here c.index-stored-entry.result) other)

pub returns-in_err-overwrite-clause-count_put : goal.returns-in_err-overwrite-clause-count_put
returns-in_err-overwrite-clause-count_put c =
    let d = c.index-stored-entry.result in
    rw ((err_from_is_err_and c.from_residual.result c.from_residual.ensures.1).1)
    (ap put_in (find_written c.args.stored.now c.args.file c.args.entry _ c.requires.first (c.requires.first.here d))
    ∙ ap put_in (sym (find_first c.args.stored.now c.args.file c.args.entry d c.requires.first)))

pub returns-in_err-overwrite-clause-other_put : goal.returns-in_err-overwrite-clause-other_put
returns-in_err-overwrite-clause-other_put c = λ f other.
    ap put_in (find_others c.args.stored.now c.args.file f c.args.entry _ c.requires.first (c.requires.first.here c.index-stored-entry.result) other)

pub returns-in_err-overwrite-clause-unwritten : goal.returns-in_err-overwrite-clause-unwritten
returns-in_err-overwrite-clause-unwritten c =
    let d = c.index-stored-entry.result in
    let same : stored_bytes (slice_set c.args.stored.now c.args.entry _) c.args.file ≡ stored_bytes c.args.stored.now c.args.file =
    ap bytes_in (find_written c.args.stored.now c.args.file c.args.entry _ c.requires.first (c.requires.first.here d))
    ∙ (c.in_err-overwrite.ensures.err ∙ ap bytes_in (sym (find_first c.args.stored.now c.args.file c.args.entry d c.requires.first))) in
    rw ((err_from_is_err_and c.from_residual.result c.from_residual.ensures.1).1) same

pub returns-clause-written : goal.returns-clause-written
returns-clause-written c =
    let d = c.index-stored-entry.result in
    ap bytes_in (find_written c.args.stored.now c.args.file c.args.entry _ c.requires.first (c.requires.first.here d))
    ∙ (c.in_ok-overwrite.ensures.ok ∙ ap (λ e. overwritten (bytes_in e) c.args.at c.args.bytes.now) (sym (find_first c.args.stored.now c.args.file c.args.entry d c.requires.first)))

pub returns-clause-other_bytes : goal.returns-clause-other_bytes
returns-clause-other_bytes c = λ f other.
    ap bytes_in (find_others c.args.stored.now c.args.file f c.args.entry _ c.requires.first (c.requires.first.here c.index-stored-entry.result) other)

pub returns-clause-count_put : goal.returns-clause-count_put
returns-clause-count_put c =
    let d = c.index-stored-entry.result in
    ap put_in (find_written c.args.stored.now c.args.file c.args.entry _ c.requires.first (c.requires.first.here d))
    ∙ (c.count_on-entry.ensures ∙ ap (λ e. counted (put_in e) (length c.args.bytes.now)) (sym (find_first c.args.stored.now c.args.file c.args.entry d c.requires.first)))

pub returns-clause-other_put : goal.returns-clause-other_put
returns-clause-other_put c = λ f other.
    ap put_in (find_others c.args.stored.now c.args.file f c.args.entry _ c.requires.first (c.requires.first.here c.index-stored-entry.result) other)
