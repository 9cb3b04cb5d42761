use Rattle.std.proofs.Common.{take, sym, refl, ◌∙◌, ap}
use mathlib.Core.Path.{fun_ext}
use Rattle.mast_world.specs.StoredFile.{bytes_in}
use Rattle.mast_world.proofs.FileEntryLemmas.{find_first, find_written, find_others}
use Rattle.mast_world.proofs.StoredFileLemmas.{put_kept}
use Rattle.mast_world.proofs.mem_volume.cut_to.Goals as goal

pub returns-in-Some-clause-shortened : goal.returns-in-Some-clause-shortened
returns-in-Some-clause-shortened c =
    let first = c.in-Some.ensures.found in
    let d = c.index-stored-at.result in
    ap bytes_in (find_written c.args.stored.now c.args.file c.in-Some.at _ first (first.here d))
    ∙ (c.truncate.ensures.items ∙ ap (λ e. take c.args.len (bytes_in e)) (sym (find_first c.args.stored.now c.args.file c.in-Some.at d first)))

pub returns-in-Some-clause-other_bytes : goal.returns-in-Some-clause-other_bytes
returns-in-Some-clause-other_bytes c = λ f other.
    let first = c.in-Some.ensures.found in
    ap bytes_in (find_others c.args.stored.now c.args.file f c.in-Some.at _ first (first.here c.index-stored-at.result) other)

pub returns-in-Some-clause-same_put : goal.returns-in-Some-clause-same_put
returns-in-Some-clause-same_put c =
    let first = c.in-Some.ensures.found in
    fun_ext (λ f. put_kept c.args.stored.now c.args.file f c.in-Some.at _ c.index-stored-at.result first (first.here c.index-stored-at.result) refl)
