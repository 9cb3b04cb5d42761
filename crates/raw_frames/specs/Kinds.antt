-- Frames of an asset, by its kind.
use Rattle.std.specs.Prelude.{◌≡◌, ℕ, List, Result, Err}
use Rattle.std.specs.Fmt.{decimal}
use Rattle.film_project.specs.declared.asset.AssetKind.{AssetKind}
use Rattle.film_project.specs.declared.asset.AssetKind.TheVariants as kind
use Rattle.frame_files.specs.Name.{frame_name}
use Rattle.frame_files.specs.declared.name.FrameFormat.TheVariants as format
use Rattle.mast_world.specs.Content.{Files}
use Rattle.mast_world.specs.Count.{counted}
use Rattle.raw_frames.specs.Frames.{frame_size, of_file, ppm_frame, rgb48_frame, TakesPicture}
use Rattle.raw_frames.specs.declared.refusal.FrameRefusal.{FrameRefusal}
use Rattle.raw_frames.specs.declared.refusal.FrameRefusal.TheVariants.{Missing}

-- what a picture asset shows as its frame of an index; the other kinds have no raw frames
abbrev pub shown_frame : AssetKind → Files → List ℕ → ℕ → ℕ → ℕ → Result (List ℕ) FrameRefusal
shown_frame kind.Rgb48 files file index width height = of_file (rgb48_frame index (frame_size width height)) (files file)
shown_frame kind.Ppm files file index width height = of_file (ppm_frame (decimal width) (decimal height) (frame_size width height)) (files (frame_name file index format.Ppm))
shown_frame kind.J2c files file index width height = Err Missing
shown_frame kind.Pcm24 files file index width height = Err Missing

-- what was read for it
abbrev pub TakesFrame : AssetKind → Type 0 → Files → List ℕ → ℕ → ℕ → ℕ → ℕ → Type 0
TakesFrame kind.Rgb48 tells files file index size before now = now ≡ counted before size
TakesFrame kind.Ppm tells files file index size before now = TakesPicture tells (files (frame_name file index format.Ppm)) size before now
TakesFrame kind.J2c tells files file index size before now = now ≡ before
TakesFrame kind.Pcm24 tells files file index size before now = now ≡ before
