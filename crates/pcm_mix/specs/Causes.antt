-- Why a frame of sound was refused.
use Rattle.std.specs.Prelude.{ℕ, ⊤}
use Rattle.mast_world.specs.Count.{HasRisen}
use Rattle.pcm_mix.specs.declared.refusal.SoundRefusal.{SoundRefusal}
use Rattle.pcm_mix.specs.declared.refusal.SoundRefusal.TheVariants.{SourceFault, NoMemory}

-- what is behind a refusal: what the source counted
abbrev pub IsCause : {A : Type 0} → (A → ℕ) → A → A → SoundRefusal → Type 0
IsCause faults before now SourceFault = HasRisen (faults before) (faults now)
IsCause faults before now NoMemory = ⊤
