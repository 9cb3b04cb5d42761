-- What a project's cells show: the bytes of a codestream, and how many bytes of input are read for them; or why there are none.
use Rattle.std.specs.Prelude.{ℕ, ◌+◌, List, [], ◌∷◌, length, replicate, min, Option, Some, None, unwrap_or, Result, Ok, Err}
use Rattle.codec_terms.specs.Reading.{on_ok}
use Rattle.film_plan.specs.Plan.{limits_of}
use Rattle.film_project.specs.Facts.{AssetFacts, ProjectFacts, asset_at}
use Rattle.film_project.specs.declared.asset.AssetKind.{AssetKind}
use Rattle.film_project.specs.declared.asset.AssetKind.TheVariants.{Rgb48, Ppm, J2c, Pcm24}
use Rattle.film_timeline.specs.declared.cell.Cell.{Cell}
use Rattle.film_timeline.specs.declared.cell.Cell.TheVariants.{Black, Frame}
use Rattle.frame_files.specs.Name.{frame_name}
use Rattle.frame_files.specs.declared.name.FrameFormat.TheVariants as format
use Rattle.mast_world.specs.Content.{Files}
use Rattle.raw_frames.specs.Frames.{frame_size}
use Rattle.raw_frames.specs.Kinds.{shown_frame}
use Rattle.raw_frames.specs.declared.refusal.FrameRefusal.{FrameRefusal}
use Rattle.raw_frames.specs.declared.refusal.FrameRefusal.TheVariants as raw
use Rattle.frame_values.specs.Encoded.{encoded, picture_size}
use Rattle.frame_values.specs.Ready.{ready_fault}
use Rattle.frame_values.specs.declared.ends.BadWhy.{BadWhy}
use Rattle.frame_values.specs.declared.ends.BadWhy.TheVariants.{Header, Short}
use Rattle.frame_values.specs.declared.ends.CellEnd.{CellEnd}
use Rattle.frame_values.specs.declared.ends.CellEnd.TheVariants.{Missing, Bad, SourceFault, NoMemory}

-- the bytes of a codestream, and how many bytes were taken from the source for them
pub record Shown : Type 0 where
  pub value : List ℕ
  pub taken : ℕ

-- ---- raw pictures

abbrev pub raw_end : List ℕ → FrameRefusal → CellEnd
raw_end name raw.Missing = Missing name
raw_end name (raw.BadHeader at) = Bad (Header at)
raw_end name (raw.Short size need) = Bad (Short size need)
raw_end name raw.SourceFault = SourceFault
raw_end name raw.NoMemory = NoMemory

abbrev pub raw_shown : ProjectFacts → List ℕ → ℕ → Result (List ℕ) FrameRefusal → Result Shown CellEnd
raw_shown project name taken (Ok pixels) = Ok (record { value = encoded project pixels; taken = taken })
raw_shown project name taken (Err refusal) = Err (raw_end name refusal)

abbrev pub black : ProjectFacts → List ℕ
black project = replicate (frame_size project.width project.height) 0

-- ---- codestreams that lie ready

abbrev pub unless : List ℕ → Option BadWhy → Result Shown CellEnd
unless bytes None = Ok (record { value = bytes; taken = length bytes })
unless bytes (Some why) = Err (Bad why)

abbrev pub ready_shown : ProjectFacts → List ℕ → Option (List ℕ) → Result Shown CellEnd
ready_shown project name None = Err (Missing name)
ready_shown project name (Some bytes) = unless bytes (ready_fault (limits_of project) (picture_size project) bytes)

-- ---- by the kind of their asset

-- the file in which an asset's frame of an index is
abbrev pub file_by : AssetKind → List ℕ → ℕ → List ℕ
file_by Rgb48 file index = file
file_by Ppm file index = frame_name file index format.Ppm
file_by J2c file index = frame_name file index format.J2c
file_by Pcm24 file index = file

abbrev pub file_of : AssetFacts → ℕ → List ℕ
file_of asset index = file_by asset.kind asset.file index

-- how many bytes are read for a raw picture: of a PPM file its first ones too
abbrev pub raw_taken : AssetKind → Option (List ℕ) → ℕ → ℕ
raw_taken Ppm file size = min 1024 (length (unwrap_or file [])) + size
raw_taken kind file size = size

abbrev pub asset_shown : AssetKind → Files → ProjectFacts → AssetFacts → ℕ → Result Shown CellEnd
asset_shown J2c files project asset index = ready_shown project (file_of asset index) (files (file_of asset index))
asset_shown kind files project asset index =
    raw_shown project (file_of asset index)
    (raw_taken kind (files (file_of asset index)) (frame_size project.width project.height))
    (shown_frame kind files asset.file index project.width project.height)

unfoldable pub cell_shown : Files → ProjectFacts → Cell → Result Shown CellEnd
cell_shown files project Black = Ok (record { value = encoded project (black project); taken = 0 })
cell_shown files project (Frame asset index) = asset_shown (asset_at project asset).kind files project (asset_at project asset) index

-- those of some cells, in order, where there are all of them; else the end of the first that shows nothing
unfoldable pub cells_shown : Files → ProjectFacts → List Cell → Result (List Shown) CellEnd
cells_shown files project [] = Ok []
cells_shown files project (cell ∷ cells) =
    on_ok (cell_shown files project cell) (λ shown. on_ok (cells_shown files project cells) (λ rest. Ok (shown ∷ rest)))
