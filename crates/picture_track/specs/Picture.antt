-- The picture file of a project.
use Rattle.std.specs.Prelude.{◌≡◌, ℕ, ◌+◌, codes, List, length, map, sum_by, take, All, Result, Ok}
use Rattle.codec_terms.specs.Reading.{on_ok}
use Rattle.film_project.specs.Facts.{ProjectFacts}
use Rattle.film_timeline.specs.Timeline.{cells_of, fresh_cells}
use Rattle.frame_values.specs.Causes.{IsFrameValue}
use Rattle.frame_values.specs.Shown.{Shown, cells_shown}
use Rattle.frame_values.specs.declared.ends.CellEnd.{CellEnd}
use Rattle.mast_world.specs.Content.{Files}
use Rattle.mast_world.specs.Count.{counted}
use Rattle.track_file.specs.TrackFile.{HasItems, PlainTrack}
use Rattle.track_terms.specs.Facts.{PlainFacts, of_project}
use Rattle.track_terms.specs.Track.{body, track}
use Rattle.track_terms.specs.declared.kind.TrackKind.TheVariants.{Picture}

-- the facts of its track, where the asset has this UUID
abbrev pub picture_facts : ProjectFacts → List ℕ → PlainFacts
picture_facts project asset = of_project project Picture (codes "picture-1.mxf") asset

abbrev pub values_of : List Shown → List (List ℕ)
values_of frames = map (λ (shown : Shown). shown.value) frames

-- the file: the track of what all frames show; or the end of the first frame that shows nothing
abbrev pub picture_of : Files → ProjectFacts → List ℕ → Result (List ℕ) CellEnd
picture_of files project asset =
    on_ok (cells_shown files project (cells_of project)) (λ frames. Ok (track (picture_facts project asset) (values_of frames)))

abbrev pub all_taken : List Shown → ℕ
all_taken frames = sum_by (λ (shown : Shown). shown.taken) frames

-- how many bytes of input the frames have: those of each frame that doesn't repeat the one before it
abbrev pub frames_size : Files → ProjectFacts → Result ℕ CellEnd
frames_size files project = on_ok (cells_shown files project (fresh_cells (cells_of project))) (λ frames. Ok (all_taken frames))

-- how many bytes are put into a file that becomes this one: its head is written twice
abbrev pub picture_put : List ℕ → ℕ
picture_put picture = length picture + 16508

-- ---- while it is written

-- the track has what the first f frames show, and nothing else; what was taken for the fresh ones was counted
pub record HasCopied (volume_tells : Type 0) (files : Files) (project : ProjectFacts) (f : ℕ) (track : PlainTrack) (picture : List ℕ) (taken_before taken_now : ℕ) : Type 0 where
  pub frames : List Shown
  pub fresh : List Shown
  pub shown : cells_shown files project (take f (cells_of project)) ≡ Ok frames
  pub read : cells_shown files project (fresh_cells (take f (cells_of project))) ≡ Ok fresh
  pub written : volume_tells → HasItems track (values_of frames) picture
  pub taken : taken_now ≡ counted taken_before (all_taken fresh)

-- the track has so many items, each of something that a frame may have; what was put for them was counted
pub record HasFrameItems (project : ProjectFacts) (frames : ℕ) (track : PlainTrack) (picture : List ℕ) (put_before put_now : ℕ) : Type 0 where
  pub values : List (List ℕ)
  pub count : length values ≡ frames
  pub each : All (IsFrameValue project) values
  pub written : HasItems track values picture
  pub put : put_now ≡ counted put_before (length (body track.facts.kind values))

-- ---- when it is written

-- all input of the project was read, and the file is its picture file
pub record IsPicture (volume_tells : Type 0) (files : Files) (project : ProjectFacts) (asset picture : List ℕ) (taken_before taken_now : ℕ) : Type 0 where
  pub made : List ℕ
  pub size : ℕ
  pub shown : picture_of files project asset ≡ Ok made
  pub read : frames_size files project ≡ Ok size
  pub written : volume_tells → picture ≡ made
  pub taken : taken_now ≡ counted taken_before size

-- the file is the track of a value for each frame, each within the project's limits, whatever the source told of its files
pub record HasFrameValues (project : ProjectFacts) (asset picture : List ℕ) : Type 0 where
  pub values : List (List ℕ)
  pub count : length values ≡ project.frames
  pub each : All (IsFrameValue project) values
  pub written : picture ≡ track (picture_facts project asset) values
