-- What the steps of showing a cell show, and why one shows nothing.
use Rattle.std.specs.Prelude.{◌≡◌, ℕ, List, Result, Ok, Err, ⊤}
use Rattle.film_project.specs.Facts.{AssetFacts, ProjectFacts}
use Rattle.mast_world.specs.Content.{Files}
use Rattle.mast_world.specs.Count.{HasRisen, counted}
use Rattle.raw_frames.specs.Frames.{frame_size}
use Rattle.raw_frames.specs.Kinds.{shown_frame}
use Rattle.frame_values.specs.Causes.{IsFault}
use Rattle.frame_values.specs.Encoded.{IsEncodingOf}
use Rattle.frame_values.specs.Shown.{Shown, file_of, raw_shown, raw_taken}
use Rattle.frame_values.specs.declared.ends.CellEnd.{CellEnd}
use Rattle.frame_values.specs.declared.ends.CellEnd.TheVariants.{Missing, Bad, SourceFault, NoMemory}

-- what an asset's raw picture of an index is shown as
abbrev pub picture_shown : Files → ProjectFacts → AssetFacts → ℕ → Result Shown CellEnd
picture_shown files project asset index =
    raw_shown project (file_of asset index)
    (raw_taken asset.kind (files (file_of asset index)) (frame_size project.width project.height))
    (shown_frame asset.kind files asset.file index project.width project.height)

-- the bytes are an asset's raw picture of an index, and what was taken for them was counted
pub record IsRead (files : Files) (project : ProjectFacts) (asset : AssetFacts) (index : ℕ) (raw : List ℕ) (before now : ℕ) : Type 0 where
  pub is : shown_frame asset.kind files asset.file index project.width project.height ≡ Ok raw
  pub taken : now ≡ counted before (raw_taken asset.kind (files (file_of asset index)) (frame_size project.width project.height))

-- the bytes are what is to be shown, and what was taken for them was counted
pub record IsShown (wanted : Result Shown CellEnd) (bytes : List ℕ) (before now : ℕ) : Type 0 where
  pub shown : Shown
  pub is : wanted ≡ Ok shown
  pub value : bytes ≡ shown.value
  pub taken : now ≡ counted before shown.taken

-- Why a file shows nothing. A source is given by what it tells and counts, and by its states before and now.
abbrev pub IsEnd : {A : Type 0} → Type 0 → Result Shown CellEnd → ProjectFacts → List ℕ → (A → ℕ) → (A → ℕ) → A → A → CellEnd → Type 0
IsEnd tells wanted project file absent faults before now (Missing name) =
    (name ≡ file) × HasRisen (absent before) (absent now) × (tells → wanted ≡ Err (Missing name))
IsEnd tells wanted project file absent faults before now (Bad why) = IsFault project why × (tells → wanted ≡ Err (Bad why))
IsEnd tells wanted project file absent faults before now SourceFault = HasRisen (faults before) (faults now)
IsEnd tells wanted project file absent faults before now NoMemory = ⊤

-- the bytes are the encoding of a raw picture
abbrev pub IsEncoding : ProjectFacts → List ℕ → Type 0
IsEncoding project value = (raw : List ℕ) × IsEncodingOf project raw value
