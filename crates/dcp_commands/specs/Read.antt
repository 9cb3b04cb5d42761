-- What `read` prints of the file of a name, and why it ends so.
use Rattle.std.specs.Prelude.{◌≡◌, ℕ, ◌<◌, List, [], ◌∷◌, ◌++◌, Result, Ok, Err, ⊤}
use Rattle.mast_world.specs.Content.{Files}
use Rattle.mast_world.specs.Count.{HasRisen}
use Rattle.stream_inspect.specs.Causes.{IsInspectCause, IsRefusalOf, IsToldOf}
use Rattle.stream_inspect.specs.Inspect.{greatest_size, inspected}
use Rattle.stream_inspect.specs.Texts.{inspected_text}
use Rattle.stream_inspect.specs.declared.ends.InspectEnd.{InspectEnd}
use Rattle.stream_inspect.specs.declared.file.Inspected.{Inspected}
use Rattle.dcp_commands.specs.Status.{read_status}
use Rattle.dcp_commands.specs.declared.stopped.Stopped.{Stopped}
use Rattle.dcp_commands.specs.declared.stopped.Stopped.TheVariants as stop
use Rattle.dcp_commands.specs.declared.status.Status.{Status}
use Rattle.dcp_commands.specs.declared.status.Status.TheVariants.{Done, Usage, ProjectRefused, InputMissing, InputShort, SourceFault, StoreFault, SinkFault, NoMemory, BadFrame, NoSuchFrame, BadStream, InputTooLong}

-- its lines
abbrev pub read_text : Inspected → List ℕ
read_text it = inspected_text it ++ 10 ∷ []

abbrev pub lines_of : Result Inspected InspectEnd → Result (List ℕ) Status
lines_of (Ok it) = Ok (read_text it)
lines_of (Err end) = Err (read_status end)

-- the lines of the file of this name, or how the command ends
abbrev pub read_answer : Files → List ℕ → Result (List ℕ) Status
read_answer files name = lines_of (inspected files name)

-- the text of `Done`: what is told of some bytes, and where the source tells its contents of the file's
pub record IsReadText (tells : Type 0) (files : Files) (name : List ℕ) (text : List ℕ) : Type 0 where
  pub it : Inspected
  pub of_bytes : IsToldOf it
  pub is : text ≡ read_text it
  pub told : tells → inspected files name ≡ Ok it

-- why `read` has no text, and why it ended so. Devices are given by what they tell and count, and by their states before and now.
module _ {A : Type 0} (tells : Type 0) (files : Files) (name : List ℕ) (absent faults : A → ℕ) (before now : A) where
  abbrev pub IsStop : Stopped → Type 0
  IsStop stop.Usage = ⊥
  IsStop (stop.Plan end) = ⊥
  IsStop (stop.Make end) = ⊥
  IsStop (stop.Read end) = IsInspectCause tells files name absent faults before now end
  IsStop (stop.Frame end) = ⊥
  IsStop (stop.NoSuchFrame frame frames) = ⊥
  IsStop stop.NoMemory = ⊤

  abbrev pub IsAnswer : Status → Type 0
  IsAnswer status = tells → read_answer files name ≡ Err status

  -- {C} is the sink
  abbrev pub IsCause : {C : Type 0} → (C → ℕ) → C → C → Status → Type 0
  IsCause sink_faults out out_now Done = (faults now ≡ faults before) × (sink_faults out_now ≡ sink_faults out)
  IsCause sink_faults out out_now (InputMissing n) = HasRisen (absent before) (absent now) × (n ≡ name) × IsAnswer (InputMissing n)
  IsCause sink_faults out out_now SourceFault = HasRisen (faults before) (faults now)
  IsCause sink_faults out out_now SinkFault = HasRisen (sink_faults out) (sink_faults out_now)
  IsCause sink_faults out out_now NoMemory = ⊤
  IsCause sink_faults out out_now (BadStream refusal) = IsRefusalOf refusal × IsAnswer (BadStream refusal)
  IsCause sink_faults out out_now (InputTooLong size) = (greatest_size < size) × IsAnswer (InputTooLong size)
  IsCause sink_faults out out_now Usage = ⊥
  IsCause sink_faults out out_now (ProjectRefused refusal) = ⊥
  IsCause sink_faults out out_now (InputShort asset size need) = ⊥
  IsCause sink_faults out out_now StoreFault = ⊥
  IsCause sink_faults out out_now (BadFrame frame why) = ⊥
  IsCause sink_faults out out_now (NoSuchFrame frame frames) = ⊥
