-- How many bytes the single files have to have.
use Rattle.std.specs.Prelude.{ℕ, ◌+◌, ◌-◌, ◌*◌, ◌/◌, ◌==◌, max, nat_lt, if◌then◌else◌, List, [], ◌∷◌, Option, Some, None}
use Rattle.film_project.specs.Facts.{AssetFacts, PictureFacts, SoundFacts, ProjectFacts}
use Rattle.film_project.specs.declared.asset.AssetKind.{AssetKind}
use Rattle.film_project.specs.declared.asset.AssetKind.TheVariants.{Rgb48, Ppm, J2c, Pcm24}

-- the greatest of what is counted of each item, 0 where there is none
abbrev pub greatest : {T : Type 0} → (T → ℕ) → List T → ℕ
greatest count [] = 0
greatest count (item ∷ items) = max (count item) (greatest count items)

-- the number of frames up to the last one that the clip shows of the asset at this place
abbrev pub frames_shown : ℕ → PictureFacts → ℕ
frames_shown asset clip = if clip.asset == asset then clip.from + (clip.count - 1) / clip.hold + 1 else 0

-- the same of a clip of sound
abbrev pub frames_played : ℕ → SoundFacts → ℕ
frames_played asset clip = if clip.asset == asset then clip.from + clip.count else 0

-- the bytes of a frame of 16-bit red, green and blue samples
abbrev pub frame_size : ProjectFacts → ℕ
frame_size project = project.width * project.height * 6

-- the bytes of a frame of 24-bit samples at 48 kHz in this many channels
abbrev pub sound_size : ProjectFacts → ℕ → ℕ
sound_size project channels = 48000 / project.fps * channels * 3

-- the bytes that the clips need of an asset of this kind at this place; all of them count, also those that later clips hide
abbrev pub need_by : AssetKind → ProjectFacts → ℕ → ℕ → ℕ
need_by Rgb48 project place channels = greatest (frames_shown place) project.picture * frame_size project
need_by Pcm24 project place channels = greatest (frames_played place) project.sound * sound_size project channels
need_by Ppm project place channels = 0
need_by J2c project place channels = 0

abbrev pub need_of : ProjectFacts → ℕ → AssetFacts → ℕ
need_of project place asset = need_by asset.kind project place asset.channels

-- an asset that is shorter than its need
pub record Short : Type 0 where
  pub asset : List ℕ
  pub size : ℕ
  pub need : ℕ

abbrev pub short_from : ProjectFacts → ℕ → List AssetFacts → List ℕ → Option Short
short_from project place (asset ∷ assets) (size ∷ sizes) =
    if nat_lt size (need_of project place asset)
    then Some (record { asset = asset.id; size = size; need = need_of project place asset })
    else short_from project (place + 1) assets sizes
short_from project place assets sizes = None

-- the first one, where each asset has a size
abbrev pub first_short : ProjectFacts → List ℕ → Option Short
first_short project sizes = short_from project 0 project.assets sizes
