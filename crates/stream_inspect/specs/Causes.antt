-- Why nothing is told of a file, ending by ending, and how many bytes were read.
use Rattle.std.specs.Prelude.{◌≡◌, ◌≢◌, ◌⊎◌, ◌<◌, ◌≤◌, ℕ, List, length, Option, Some, option_map, Result, Ok, Err, ⊤}
use Rattle.codec_terms.specs.StreamReading.{stream_read}
use Rattle.codec_terms.specs.declared.reading.ReadRefusal.{ReadRefusal}
use Rattle.codec_terms.specs.declared.reading.ReadRefusal.TheVariants as read
use Rattle.mast_world.specs.Content.{Files}
use Rattle.mast_world.specs.Count.{HasRisen, counted}
use Rattle.stream_inspect.specs.Inspect.{greatest_size, inspected, with_bytes}
use Rattle.stream_inspect.specs.declared.ends.InspectEnd.{InspectEnd}
use Rattle.stream_inspect.specs.declared.ends.InspectEnd.TheVariants.{Missing, TooLong, Bad, Fault, NoMemory}
use Rattle.stream_inspect.specs.declared.file.Inspected.{Inspected}

-- it is told of some bytes, also by a source that doesn't tell which
pub record IsToldOf (it : Inspected) : Type 0 where
  pub bytes : List ℕ
  pub told : with_bytes bytes ≡ Ok it

-- the definition of reading refuses some bytes so
pub record IsRefusalOf (refusal : ReadRefusal) : Type 0 where
  pub bytes : List ℕ
  pub other : refusal ≢ read.NoMemory
  pub refused : stream_read bytes ≡ Err refusal

-- what the files lead to, where they are told
abbrev pub IsEnd : Type 0 → Files → List ℕ → InspectEnd → Type 0
IsEnd tells files name end = tells → inspected files name ≡ Err end

-- A source is given by what it counts, and by its states before and now.
abbrev pub IsInspectCause : {A : Type 0} → Type 0 → Files → List ℕ → (A → ℕ) → (A → ℕ) → A → A → InspectEnd → Type 0
IsInspectCause tells files name absent faults before now (Missing n) =
    HasRisen (absent before) (absent now) × (n ≡ name) × IsEnd tells files name (Missing n)
IsInspectCause tells files name absent faults before now (TooLong size) = (greatest_size < size) × IsEnd tells files name (TooLong size)
IsInspectCause tells files name absent faults before now (Bad refusal) = IsRefusalOf refusal × IsEnd tells files name (Bad refusal)
IsInspectCause tells files name absent faults before now Fault = HasRisen (faults before) (faults now)
IsInspectCause tells files name absent faults before now NoMemory = ⊤

-- ---- endings of its steps

-- of finding the file
abbrev pub IsFindCause : {A : Type 0} → Type 0 → Files → List ℕ → (A → ℕ) → (A → ℕ) → A → A → InspectEnd → Type 0
IsFindCause tells files name absent faults before now (Bad refusal) = ⊥
IsFindCause tells files name absent faults before now end = IsInspectCause tells files name absent faults before now end

-- of reading its bytes
abbrev pub IsReadCause : {A : Type 0} → (A → ℕ) → A → A → InspectEnd → Type 0
IsReadCause faults before now Fault = HasRisen (faults before) (faults now)
IsReadCause faults before now NoMemory = ⊤
IsReadCause faults before now end = ⊥

-- of telling what these bytes are
abbrev pub IsBytesCause : List ℕ → InspectEnd → Type 0
IsBytesCause bytes (Bad refusal) = (refusal ≢ read.NoMemory) × (stream_read bytes ≡ Err refusal)
IsBytesCause bytes NoMemory = ⊤
IsBytesCause bytes end = ⊥

-- ---- how many bytes were read

-- all of the file's: where the source tells its contents, so many
pub record IsAllTaken (tells : Type 0) (file : Option (List ℕ)) (before now : ℕ) : Type 0 where
  pub size : ℕ
  pub few : size ≤ greatest_size
  pub taken : now ≡ counted before size
  pub told : tells → option_map length file ≡ Some size

-- all of a file that is told of or refused, and of one that isn't there or is too long nothing
abbrev pub IsTaken : Type 0 → Option (List ℕ) → ℕ → ℕ → Result Inspected InspectEnd → Type 0
IsTaken tells file before now (Ok it) = (it.size ≤ greatest_size) × (now ≡ counted before it.size)
IsTaken tells file before now (Err (Missing name)) = now ≡ before
IsTaken tells file before now (Err (TooLong size)) = now ≡ before
IsTaken tells file before now (Err (Bad refusal)) = IsAllTaken tells file before now
IsTaken tells file before now (Err Fault) = now ≡ before
IsTaken tells file before now (Err NoMemory) = (now ≡ before) ⊎ IsAllTaken tells file before now
