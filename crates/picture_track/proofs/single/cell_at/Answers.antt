use Rattle.std.proofs.Common.{◌∙◌}
use Rattle.picture_track.proofs.Frames.{cell_there}
use Rattle.picture_track.proofs.single.cell_at.Goals as goal

pub bounds-as_slice-frame : goal.bounds-as_slice-frame
bounds-as_slice-frame c = cell_there c.args.plan.now.project _ c.args.frame (c.as_slice.ensures ∙ c.args.plan.now.cells_are) c.requires
