-- The sound file of a project.
use Rattle.std.specs.Prelude.{◌≡◌, ℕ, ◌+◌, ◌*◌, codes, List, length, map, sum_by, All}
use Rattle.std.specs.List.{range_with_len}
use Rattle.film_project.specs.Facts.{ProjectFacts}
use Rattle.mast_world.specs.Content.{Files}
use Rattle.mxf_track.specs.Sizes.{tail_size}
use Rattle.pcm_mix.specs.Mix.{sound_frame, sound_size, sound_taken}
use Rattle.track_file.specs.TrackFile.{HasItems, PlainTrack}
use Rattle.track_terms.specs.Facts.{PlainFacts, of_project}
use Rattle.track_terms.specs.Track.{track}
use Rattle.track_terms.specs.declared.kind.TrackKind.TheVariants.{Sound}

-- the sound of each of the first frames, and of all
abbrev pub first_values : Files → ProjectFacts → ℕ → List (List ℕ)
first_values files project frames = map (sound_frame files project) (range_with_len 0 frames)

abbrev pub sound_values : Files → ProjectFacts → List (List ℕ)
sound_values files project = first_values files project project.frames

-- the facts of the track, which as an asset has this UUID
abbrev pub sound_facts : ProjectFacts → List ℕ → PlainFacts
sound_facts project asset = of_project project Sound (codes "sound-1.mxf") asset

-- the whole file
abbrev pub sound_of : Files → ProjectFacts → List ℕ → List ℕ
sound_of files project asset = track (sound_facts project asset) (sound_values files project)

-- ---- what is counted

-- the bytes that are read for the first frames, and for all
abbrev pub first_taken : ProjectFacts → ℕ → ℕ
first_taken project frames = sum_by (sound_taken project) (range_with_len 0 frames)

abbrev pub sounds_taken : ProjectFacts → ℕ
sounds_taken project = first_taken project project.frames

-- the bytes of a frame's item, and all that are written: the items, the tail, and the head at first and at last
abbrev pub item_size : ProjectFacts → ℕ
item_size project = 20 + sound_size project project.channels

abbrev pub sound_put : ProjectFacts → ℕ
sound_put project = 2 * 16508 + project.frames * item_size project + tail_size project.frames

-- ---- what the file has whatever the source tells

-- so many values, each of the size of a frame of sound
pub record AreSoundValues (project : ProjectFacts) (frames : ℕ) (values : List (List ℕ)) : Type 0 where
  pub count : length values ≡ frames
  pub each : All (λ value. length value ≡ sound_size project project.channels) values

-- the items so far are of such values
pub record HasFrames (project : ProjectFacts) (frames : ℕ) (so_far : PlainTrack) (bytes : List ℕ) : Type 0 where
  pub values : List (List ℕ)
  pub sized : AreSoundValues project frames values
  pub items : HasItems so_far values bytes

-- the file is the track of such values
pub record HasSoundItems (project : ProjectFacts) (asset bytes : List ℕ) : Type 0 where
  pub values : List (List ℕ)
  pub sized : AreSoundValues project project.frames values
  pub written : bytes ≡ track (sound_facts project asset) values
