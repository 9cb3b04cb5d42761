-- Why there is no picture file, or no frame, ending by ending.
use Rattle.std.specs.Prelude.{◌≡◌, ◌⊎◌, ℕ, List, take, slice_get, Some, Err, IsOk, ⊤}
use Rattle.disk_terms.specs.Disk.{History}
use Rattle.film_project.specs.Facts.{ProjectFacts}
use Rattle.film_timeline.specs.Timeline.{cells_of, IsFresh}
use Rattle.film_timeline.specs.declared.cell.Cell.{Cell}
use Rattle.frame_values.specs.Causes.{IsFault, IsInFile}
use Rattle.frame_values.specs.Shown.{cell_shown, cells_shown}
use Rattle.frame_values.specs.declared.ends.BadWhy.{BadWhy}
use Rattle.frame_values.specs.declared.ends.CellEnd.TheVariants as of_cell
use Rattle.mast_world.specs.Changes.{IsUnwritten}
use Rattle.mast_world.specs.Content.{Files}
use Rattle.mast_world.specs.Count.{HasRisen}
use Rattle.mast_world.specs.declared.volume.FileId.{FileId}
use Rattle.picture_track.specs.declared.outcome.FrameEnd.{FrameEnd}
use Rattle.picture_track.specs.declared.outcome.FrameEnd.TheVariants.{Missing, Bad, SourceFault, NoMemory}
use Rattle.picture_track.specs.declared.outcome.PictureEnd.{PictureEnd}
use Rattle.picture_track.specs.declared.outcome.PictureEnd.TheVariants.{Frame, Track}
use Rattle.picture_track.specs.declared.outcome.PictureEnd.TheVariants as picture
use Rattle.track_file.specs.Causes.{IsCause}
use Rattle.track_file.specs.declared.end.TrackEnd.TheVariants as of_track

-- frame f is fresh and shows this cell; all frames in front of it can be shown
pub record IsReached (tells : Type 0) (files : Files) (project : ProjectFacts) (f : ℕ) (cell : Cell) : Type 0 where
  pub at : slice_get (cells_of project) f ≡ Some cell
  pub fresh : IsFresh (cells_of project) f
  pub earlier : tells → IsOk (cells_shown files project (take f (cells_of project)))

-- a fresh frame's file isn't there
pub record IsMissingFrame (tells : Type 0) (files : Files) (project : ProjectFacts) (name : List ℕ) : Type 0 where
  pub f : ℕ
  pub cell : Cell
  pub reached : IsReached tells files project f cell
  pub named : IsInFile project cell name
  pub gone : tells → cell_shown files project cell ≡ Err (of_cell.Missing name)

-- a fresh frame's input breaks its form
pub record IsBadFrame (tells : Type 0) (files : Files) (project : ProjectFacts) (f : ℕ) (why : BadWhy) : Type 0 where
  pub cell : Cell
  pub reached : IsReached tells files project f cell
  pub fault : IsFault project why
  pub told : tells → cell_shown files project cell ≡ Err (of_cell.Bad why)

-- ---- endings. Devices are given by what they tell and count, and by their states before and now.

module _ {A : Type 0} (tells : Type 0) (files : Files) where
  -- of making a frame, where the frames are made in order
  abbrev pub IsFrameCause : ProjectFacts → (A → ℕ) → (A → ℕ) → A → A → FrameEnd → Type 0
  IsFrameCause project absent faults before now (Missing name) =
      IsMissingFrame tells files project name × HasRisen (absent before) (absent now)
  IsFrameCause project absent faults before now (Bad frame why) = IsBadFrame tells files project frame why
  IsFrameCause project absent faults before now SourceFault = HasRisen (faults before) (faults now)
  IsFrameCause project absent faults before now NoMemory = ⊤

  -- of making one frame by itself
  abbrev pub IsSingleCause : ProjectFacts → ℕ → Cell → (A → ℕ) → (A → ℕ) → A → A → FrameEnd → Type 0
  IsSingleCause project f cell absent faults before now (Missing name) =
      IsInFile project cell name × HasRisen (absent before) (absent now)
      × (tells → cell_shown files project cell ≡ Err (of_cell.Missing name))
  IsSingleCause project f cell absent faults before now (Bad frame why) =
      (frame ≡ f) × IsFault project why × (tells → cell_shown files project cell ≡ Err (of_cell.Bad why))
  IsSingleCause project f cell absent faults before now SourceFault = HasRisen (faults before) (faults now)
  IsSingleCause project f cell absent faults before now NoMemory = ⊤

  module _ {B : Type 0} (project : ProjectFacts) (absent faults : A → ℕ) (before now : A) where
    -- of putting the frames into the file
    abbrev pub IsCopyCause : (B → ℕ) → B → B → PictureEnd → Type 0
    IsCopyCause store_faults volume volume_now (Frame end) = IsFrameCause project absent faults before now end
    IsCopyCause store_faults volume volume_now (Track end) = IsCause store_faults volume volume_now end
    IsCopyCause store_faults volume volume_now picture.NoMemory = ⊥

    -- of writing the file
    abbrev pub IsPictureCause : Type 0 → (B → FileId → List ℕ) → (B → FileId → ℕ) → (B → ℕ) → (B → History FileId) → B → B → PictureEnd → Type 0
    IsPictureCause store_tells reads put store_faults history volume volume_now (Frame end) = IsFrameCause project absent faults before now end
    IsPictureCause store_tells reads put store_faults history volume volume_now (Track end) = IsCause store_faults volume volume_now end
    IsPictureCause store_tells reads put store_faults history volume volume_now picture.NoMemory = IsUnwritten store_tells reads put history volume volume_now

-- ends for want of memory
abbrev pub IsOutOfMemory : PictureEnd → Type 0
IsOutOfMemory end = (end ≡ picture.NoMemory) ⊎ (end ≡ Track of_track.NoMemory) ⊎ (end ≡ Frame NoMemory)
