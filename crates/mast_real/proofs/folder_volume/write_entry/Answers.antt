use Rattle.std.proofs.Common.{sym, ◌∙◌, ap, length}
use Rattle.mast_world.specs.Count.{counted}
use Rattle.mast_world.proofs.FileEntryLemmas.{find_first, find_written, find_others}
use Rattle.mast_real.specs.FolderFile.{put_in}
use Rattle.mast_real.proofs.folder_volume.write_entry.Goals as goal

pub returns-clause-count_put : goal.returns-clause-count_put
returns-clause-count_put c =
    ap put_in (find_written c.args.files.now c.args.file c.args.entry _ c.requires (c.requires.here _))
    ∙ (c.count_on-entry.ensures ∙ ap (λ e. counted (put_in e) (length c.args.bytes.now)) (sym (find_first c.args.files.now c.args.file c.args.entry _ c.requires)))

pub returns-clause-other_put : goal.returns-clause-other_put
returns-clause-other_put c = λ f other.
    ap put_in (find_others c.args.files.now c.args.file f c.args.entry _ c.requires (c.requires.here _) other)
