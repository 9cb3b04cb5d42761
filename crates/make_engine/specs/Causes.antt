-- Why no package was made, ending by ending.
use Rattle.std.specs.Prelude.{◌≡◌, ◌⊎◌, ℕ, List, ⊤}
use Rattle.disk_terms.specs.Disk.{History}
use Rattle.film_project.specs.Facts.{ProjectFacts}
use Rattle.make_engine.specs.Package.{HasSound}
use Rattle.make_engine.specs.declared.outcome.MakeEnd.{MakeEnd}
use Rattle.make_engine.specs.declared.outcome.MakeEnd.TheVariants.{Picture, Sound, NoMemory}
use Rattle.mast_world.specs.Changes.{IsUnwritten}
use Rattle.mast_world.specs.Content.{Files}
use Rattle.mast_world.specs.declared.volume.FileId.{FileId}
use Rattle.pcm_mix.specs.declared.refusal.SoundRefusal.TheVariants as of_mix
use Rattle.picture_track.specs.Causes as of_picture
use Rattle.sound_track.specs.Causes.{IsSoundCause}
use Rattle.sound_track.specs.declared.end.SoundEnd.{SoundEnd}
use Rattle.sound_track.specs.declared.end.SoundEnd.TheVariants as of_sound
use Rattle.track_file.specs.declared.end.TrackEnd.TheVariants as of_track

-- Devices are given by what they tell and count, and by their states before and now.
module _ {A B : Type 0} (tells : Type 0) (files : Files) (project : ProjectFacts) (absent faults : A → ℕ) (before now : A)
    (store_tells : Type 0) (reads : B → FileId → List ℕ) (put : B → FileId → ℕ) (store_faults : B → ℕ)
    (history : B → History FileId) (volume volume_now : B) where
  abbrev pub IsMakeCause : MakeEnd → Type 0
  IsMakeCause (Picture end) =
      of_picture.IsPictureCause tells files project absent faults before now store_tells reads put store_faults history
      volume volume_now end
  IsMakeCause (Sound end) = HasSound project × IsSoundCause faults before now store_faults volume volume_now end
  IsMakeCause NoMemory = IsUnwritten store_tells reads put history volume volume_now

-- ends for want of memory
abbrev pub IsSoundOutOfMemory : SoundEnd → Type 0
IsSoundOutOfMemory end = (end ≡ of_sound.Sound of_mix.NoMemory) ⊎ (end ≡ of_sound.Track of_track.NoMemory)

abbrev pub IsOutOfMemory : MakeEnd → Type 0
IsOutOfMemory (Picture end) = of_picture.IsOutOfMemory end
IsOutOfMemory (Sound end) = IsSoundOutOfMemory end
IsOutOfMemory NoMemory = ⊤
