-- The end of a frame whose cell shows nothing.
use Rattle.std.specs.Prelude.{ℕ}
use Rattle.frame_values.specs.declared.ends.CellEnd.{CellEnd}
use Rattle.frame_values.specs.declared.ends.CellEnd.TheVariants as of_cell
use Rattle.picture_track.specs.declared.outcome.FrameEnd.{FrameEnd}
use Rattle.picture_track.specs.declared.outcome.FrameEnd.TheVariants.{Missing, Bad, SourceFault, NoMemory}

abbrev pub frame_end : ℕ → CellEnd → FrameEnd
frame_end frame (of_cell.Missing name) = Missing name
frame_end frame (of_cell.Bad why) = Bad frame why
frame_end frame of_cell.SourceFault = SourceFault
frame_end frame of_cell.NoMemory = NoMemory
