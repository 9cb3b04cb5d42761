-- The end of one frame that is made by itself.
use Rattle.std.proofs.Common.{ℕ, refl}
use Rattle.film_project.specs.Facts.{ProjectFacts}
use Rattle.film_timeline.specs.declared.cell.Cell.{Cell}
use Rattle.frame_values.specs.Causes.{IsCellCause}
use Rattle.frame_values.specs.declared.ends.CellEnd.{CellEnd}
use Rattle.frame_values.specs.declared.ends.CellEnd.TheVariants as of_cell
use Rattle.mast_world.specs.Content.{Files}
use Rattle.picture_track.specs.Causes.{IsSingleCause}
use Rattle.picture_track.specs.Ends.{frame_end}

-- why its cell shows nothing is why there is no frame
pub single_cause :
    {A : Type 0} (tells : Type 0) (files : Files) (project : ProjectFacts) (f : ℕ) (cell : Cell) (absent faults : A → ℕ) (before now : A) (end : CellEnd) →
    IsCellCause tells files project cell absent faults before now end → IsSingleCause tells files project f cell absent faults before now (frame_end f end)
single_cause tells files project f cell absent faults before now (of_cell.Missing name) why = why
single_cause tells files project f cell absent faults before now (of_cell.Bad reason) why = (refl, why.0, why.1)
single_cause tells files project f cell absent faults before now of_cell.SourceFault why = why
single_cause tells files project f cell absent faults before now of_cell.NoMemory why = tt
