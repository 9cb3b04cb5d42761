use Rattle.std.proofs.Common.{sym, ◌∙◌, ap}
use Rattle.mast_world.proofs.Find.{find_none_more}
use Rattle.mast_world.specs.FileEntry.{is_of}
use Rattle.mast_world.proofs.file_entry.position_of.Goals as goal

pub loop-at-preserved : goal.loop-at-preserved
loop-at-preserved g c =
    find_none_more (is_of c.args.file) c.args.entries.now c.loop-at.at c.index-entries-at.result c.loop-at-test.true c.loop-at.invariant
    (ap (is_of c.args.file) (sym c.index-entries-at.is) ∙ (sym c.is_of.ensures ∙ c.if-is_of.false))
