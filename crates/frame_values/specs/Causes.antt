-- What was shown of a cell, and why nothing was, ending by ending.
use Rattle.std.specs.Prelude.{◌≡◌, ◌≢◌, ◌⊎◌, ℕ, zero, suc, ◌<◌, Bool, true, false, List, slice_get, Some, None, Ok, Err, ⊤}
use Rattle.codec_terms.specs.StreamReading.{stream_read}
use Rattle.film_plan.specs.Plan.{limits_of}
use Rattle.film_project.specs.Facts.{ProjectFacts, asset_at}
use Rattle.film_timeline.specs.Timeline.{cells_of}
use Rattle.film_timeline.specs.declared.cell.Cell.{Cell}
use Rattle.film_timeline.specs.declared.cell.Cell.TheVariants.{Black, Frame}
use Rattle.film_project.specs.declared.asset.AssetKind.{AssetKind}
use Rattle.film_project.specs.declared.asset.AssetKind.TheVariants.{Rgb48, Ppm, J2c, Pcm24}
use Rattle.mast_world.specs.Content.{Files}
use Rattle.mast_world.specs.Count.{HasRisen, counted}
use Rattle.frame_values.specs.Encoded.{IsEncodingOf, picture_size}
use Rattle.frame_values.specs.Ready.{ready_fault}
use Rattle.frame_values.specs.Shown.{Shown, cell_shown, file_of}
use Rattle.frame_values.specs.declared.ends.BadWhy.{BadWhy}
use Rattle.frame_values.specs.declared.ends.BadWhy.TheVariants.{Header, Short, Stream, Size, Limit}
use Rattle.frame_values.specs.declared.ends.CellEnd.{CellEnd}
use Rattle.frame_values.specs.declared.ends.CellEnd.TheVariants.{Missing, Bad, SourceFault, NoMemory}

-- the cell is that of one of the project's frames
abbrev pub IsCellOf : ProjectFacts → Cell → Type 0
IsCellOf project cell = (f : ℕ) × (slice_get (cells_of project) f ≡ Some cell)

-- a frame may have these bytes: the encoding of a raw picture, or a codestream with which nothing is wrong
abbrev pub IsFrameValue : ProjectFacts → List ℕ → Type 0
IsFrameValue project value =
    ((raw : List ℕ) × IsEncodingOf project raw value)
    ⊎ (ready_fault (limits_of project) (picture_size project) value ≡ None)

-- the bytes are what the cell shows, and what was taken for them was counted
pub record Shows (files : Files) (project : ProjectFacts) (cell : Cell) (bytes : List ℕ) (before now : ℕ) : Type 0 where
  pub shown : Shown
  pub is : cell_shown files project cell ≡ Ok shown
  pub value : bytes ≡ shown.value
  pub taken : now ≡ counted before shown.taken

-- ---- causes

-- the cell shows a frame of this file
pub record IsInFile (project : ProjectFacts) (cell : Cell) (name : List ℕ) : Type 0 where
  pub asset : ℕ
  pub index : ℕ
  pub shown : cell ≡ Frame asset index
  pub named : name ≡ file_of (asset_at project asset) index

-- what a refusal says of any input, also of a source that doesn't tell its contents
abbrev pub IsFault : ProjectFacts → BadWhy → Type 0
IsFault project (Header at) = ⊤
IsFault project (Short size need) = size < need
IsFault project (Stream refusal) = (bytes : List ℕ) × (stream_read bytes ≡ Err refusal)
IsFault project (Size width height) = (width ≡ project.width → height ≢ project.height)
IsFault project (Limit zero got) = (limits_of project).frame < got
IsFault project (Limit (suc part) got) = (part < 3) × ((limits_of project).component < got)

-- A source is given by what it tells and counts, and by its states before and now.
abbrev pub IsCellCause : {A : Type 0} → Type 0 → Files → ProjectFacts → Cell → (A → ℕ) → (A → ℕ) → A → A → CellEnd → Type 0
IsCellCause tells files project cell absent faults before now (Missing name) =
    IsInFile project cell name × HasRisen (absent before) (absent now) × (tells → cell_shown files project cell ≡ Err (Missing name))
IsCellCause tells files project cell absent faults before now (Bad why) =
    IsFault project why × (tells → cell_shown files project cell ≡ Err (Bad why))
IsCellCause tells files project cell absent faults before now SourceFault = HasRisen (faults before) (faults now)
IsCellCause tells files project cell absent faults before now NoMemory = ⊤

-- ---- frames that the engine encodes

abbrev pub is_j2c : AssetKind → Bool
is_j2c J2c = true
is_j2c Rgb48 = false
is_j2c Ppm = false
is_j2c Pcm24 = false

-- whether the cell shows a codestream that lies ready
abbrev pub is_ready : ProjectFacts → Cell → Bool
is_ready project Black = false
is_ready project (Frame asset index) = is_j2c (asset_at project asset).kind

-- the cell shows the encoding of a raw picture
pub record IsEncodedFrame (files : Files) (project : ProjectFacts) (cell : Cell) : Type 0 where
  pub raw : List ℕ
  pub shown : Shown
  pub is : cell_shown files project cell ≡ Ok shown
  pub of : IsEncodingOf project raw shown.value

-- so does each of the project's frames that doesn't lie ready
abbrev pub AreEncodedFrames : Files → ProjectFacts → Type 0
AreEncodedFrames files project = (f : ℕ) (cell : Cell) → slice_get (cells_of project) f ≡ Some cell
    → is_ready project cell ≡ false → IsEncodedFrame files project cell
