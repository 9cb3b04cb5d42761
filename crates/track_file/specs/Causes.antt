-- Why a track file wasn't written on, ending by ending.
use Rattle.std.specs.Prelude.{ℕ, List, ⊤}
use Rattle.disk_terms.specs.Disk.{History}
use Rattle.mast_world.specs.Changes.{IsUnwritten}
use Rattle.mast_world.specs.Count.{HasRisen}
use Rattle.mast_world.specs.declared.volume.FileId.{FileId}
use Rattle.track_file.specs.declared.end.TrackEnd.{TrackEnd}
use Rattle.track_file.specs.declared.end.TrackEnd.TheVariants.{StoreFault, NoMemory}

-- of going on with a file: what the volume counted
abbrev pub IsCause : {A : Type 0} → (A → ℕ) → A → A → TrackEnd → Type 0
IsCause faults before now StoreFault = HasRisen (faults before) (faults now)
IsCause faults before now NoMemory = ⊤

-- of beginning one: memory is taken before the first write
abbrev pub IsBeginCause : {A : Type 0} → Type 0 → (A → FileId → List ℕ) → (A → FileId → ℕ) → (A → ℕ) → (A → History FileId)
    → A → A → TrackEnd → Type 0
IsBeginCause tells reads put faults history before now StoreFault = HasRisen (faults before) (faults now)
IsBeginCause tells reads put faults history before now NoMemory = IsUnwritten tells reads put history before now
