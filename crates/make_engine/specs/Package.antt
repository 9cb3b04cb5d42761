-- The package of a project: its picture file, and its sound file where it has channels of sound.
use Rattle.std.specs.Prelude.{◌≡◌, ◌⊎◌, ℕ, ◌+◌, ◌<◌, nat_lt, if◌then◌else◌, List, Option, Some, None, Result, Ok}
use Rattle.codec_terms.specs.Reading.{on_ok}
use Rattle.disk_terms.specs.Disk.{History, at_rest}
use Rattle.film_plan.specs.Plan.{ids_of}
use Rattle.film_project.specs.Facts.{ProjectFacts}
use Rattle.frame_values.specs.declared.ends.CellEnd.{CellEnd}
use Rattle.mast_world.specs.Content.{Files}
use Rattle.mast_world.specs.Count.{counted}
use Rattle.mast_world.specs.declared.volume.FileId.{FileId}
use Rattle.mast_world.specs.declared.volume.FileId.TheVariants.{Picture, Sound}
use Rattle.picture_track.specs.Picture.{HasFrameValues, frames_size, picture_of, picture_put}
use Rattle.sound_track.specs.Sound.{HasSoundItems, sound_of, sound_put, sounds_taken}

abbrev pub HasSound : ProjectFacts → Type 0
HasSound project = 0 < project.channels

-- the files of a package; there is a sound file where the project has channels of sound
pub record PackageFiles : Type 0 where
  pub picture : List ℕ
  pub sound : Option (List ℕ)

abbrev pub sound_file : Files → ProjectFacts → List ℕ
sound_file files project = sound_of files project (ids_of project).sound

abbrev pub with_picture : Files → ProjectFacts → List ℕ → PackageFiles
with_picture files project picture = record {
  picture = picture;
  sound = if nat_lt 0 project.channels then Some (sound_file files project) else None;
}

-- the package: its tracks are assets with the plan's UUIDs; or the end of the first frame that shows nothing
abbrev pub package_files : Files → ProjectFacts → Result PackageFiles CellEnd
package_files files project =
    on_ok (picture_of files project (ids_of project).picture) (λ picture. Ok (with_picture files project picture))

-- an output folder whose reads give this has the files
pub record HasFiles (made : PackageFiles) (reads : FileId → List ℕ) : Type 0 where
  pub picture : reads (Picture 1) ≡ made.picture
  pub sound : (bytes : List ℕ) → made.sound ≡ Some bytes → reads (Sound 1) ≡ bytes

-- how many bytes of input the sound has, and all that the package is made of
abbrev pub sounds_size : ProjectFacts → ℕ
sounds_size project = if nat_lt 0 project.channels then sounds_taken project else 0

abbrev pub inputs_size : Files → ProjectFacts → Result ℕ CellEnd
inputs_size files project = on_ok (frames_size files project) (λ frames. Ok (frames + sounds_size project))

-- ---- which files there are

abbrev pub IsSoundFile : ProjectFacts → FileId → Type 0
IsSoundFile project file = HasSound project × (file ≡ Sound 1)

abbrev pub IsFileOf : ProjectFacts → FileId → Type 0
IsFileOf project file = (file ≡ Picture 1) ⊎ IsSoundFile project file

-- ---- what was made. The output folder is given by what reads of its files give, what was put into them, and what a crash
-- may leave.

-- all input of the project was read, and the files are those of its package
pub record IsMade (volume_tells : Type 0) (files : Files) (project : ProjectFacts) (reads : FileId → List ℕ)
    (taken_before taken_now : ℕ) : Type 0 where
  pub made : PackageFiles
  pub size : ℕ
  pub shown : package_files files project ≡ Ok made
  pub read : inputs_size files project ≡ Ok size
  pub written : volume_tells → HasFiles made reads
  pub taken : taken_now ≡ counted taken_before size

-- so many bytes were put into the files
pub record ArePut (project : ProjectFacts) (reads : FileId → List ℕ) (put_before put_now : FileId → ℕ) : Type 0 where
  pub picture : put_now (Picture 1) ≡ counted (put_before (Picture 1)) (picture_put (reads (Picture 1)))
  pub sound : HasSound project → put_now (Sound 1) ≡ counted (put_before (Sound 1)) (sound_put project)

-- a crash leaves these files as reads give them
pub record AreAtRest (project : ProjectFacts) (reads : FileId → List ℕ) (history : History FileId) : Type 0 where
  pub picture : history.newest (Picture 1) ≡ at_rest (reads (Picture 1))
  pub sound : HasSound project → history.newest (Sound 1) ≡ at_rest (reads (Sound 1))

-- whatever the source tells, the files are tracks of the project: of a codestream for each frame, each within the limits,
-- and of so much sound for each
pub record AreTracks (project : ProjectFacts) (reads : FileId → List ℕ) : Type 0 where
  pub picture : HasFrameValues project (ids_of project).picture (reads (Picture 1))
  pub sound : HasSound project → HasSoundItems project (ids_of project).sound (reads (Sound 1))
