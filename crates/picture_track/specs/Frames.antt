-- What was done with one frame.
use Rattle.std.specs.Prelude.{◌≡◌, ℕ, ◌<◌, ◌↔◌, ◌-◌, Bool, IsTrue, List, if◌then◌else◌, slice_get, Some, Ok}
use Rattle.film_project.specs.Facts.{ProjectFacts}
use Rattle.film_timeline.specs.Timeline.{cells_of}
use Rattle.film_timeline.specs.declared.cell.Cell.{Cell}
use Rattle.frame_values.specs.Shown.{Shown, cell_shown}
use Rattle.mast_world.specs.Content.{Files}
use Rattle.mast_world.specs.Count.{counted}

-- the bytes are what frame f shows
pub record IsValueAt (files : Files) (project : ProjectFacts) (f : ℕ) (bytes : List ℕ) : Type 0 where
  pub cell : Cell
  pub shown : Shown
  pub at : slice_get (cells_of project) f ≡ Some cell
  pub is : cell_shown files project cell ≡ Ok shown
  pub made : bytes ≡ shown.value

-- the bytes are what frame f shows; what was taken for it was counted, unless the frame repeats the one before it
pub record TakesValue (files : Files) (project : ProjectFacts) (f : ℕ) (bytes : List ℕ) (taken_before taken_now : ℕ) : Type 0 where
  pub cell : Cell
  pub shown : Shown
  pub repeats : Bool
  pub at : slice_get (cells_of project) f ≡ Some cell
  pub is : cell_shown files project cell ≡ Ok shown
  pub made : bytes ≡ shown.value
  pub test : IsTrue repeats ↔ ((0 < f) × (slice_get (cells_of project) f ≡ slice_get (cells_of project) (f - 1)))
  pub taken : taken_now ≡ counted taken_before (if repeats then 0 else shown.taken)
