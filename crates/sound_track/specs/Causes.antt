-- Why the sound file wasn't written, ending by ending.
use Rattle.std.specs.Prelude.{ℕ}
use Rattle.pcm_mix.specs.Causes as mix
use Rattle.track_file.specs.Causes as track
use Rattle.sound_track.specs.declared.end.SoundEnd.{SoundEnd}
use Rattle.sound_track.specs.declared.end.SoundEnd.TheVariants.{Sound, Track}

-- what is behind an ending: what the source or the volume counted
abbrev pub IsSoundCause : {A B : Type 0} → (A → ℕ) → A → A → (B → ℕ) → B → B → SoundEnd → Type 0
IsSoundCause faults before now store_faults volume volume_now (Sound refusal) = mix.IsCause faults before now refusal
IsSoundCause faults before now store_faults volume volume_now (Track end) = track.IsCause store_faults volume volume_now end
