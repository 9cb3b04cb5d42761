-- What `frame` prints of a frame of the project of a name, and why it ends so.
use Rattle.std.specs.Prelude.{◌≡◌, ◌⊎◌, ℕ, ◌<◌, ◌≤◌, nat_lt, if◌then◌else◌, List, slice_index_or, Result, Ok, Err, ⊤}
use Rattle.film_inputs.specs.Causes.{IsInputName, IsPlanCause}
use Rattle.film_inputs.specs.Inputs.{planned}
use Rattle.film_inputs.specs.declared.ends.PlanEnd.{PlanEnd}
use Rattle.film_project.specs.Facts.{ProjectFacts}
use Rattle.film_project.specs.Rules.{IsProject}
use Rattle.film_timeline.specs.Timeline.{cells_of}
use Rattle.film_timeline.specs.declared.cell.Cell.{Cell}
use Rattle.film_timeline.specs.declared.cell.Cell.TheVariants.{Black}
use Rattle.frame_values.specs.Causes.{IsFault, IsFrameValue, IsInFile}
use Rattle.frame_values.specs.Shown.{Shown, cell_shown}
use Rattle.frame_values.specs.declared.ends.BadWhy.{BadWhy}
use Rattle.frame_values.specs.declared.ends.CellEnd.{CellEnd}
use Rattle.picture_track.specs.Causes.{IsSingleCause}
use Rattle.picture_track.specs.Ends.{frame_end}
use Rattle.picture_track.specs.declared.outcome.FrameEnd.{FrameEnd}
use Rattle.mast_world.specs.Content.{Files}
use Rattle.mast_world.specs.Count.{HasRisen}
use Rattle.dcp_commands.specs.Status.{frame_status, plan_status}
use Rattle.dcp_commands.specs.declared.stopped.Stopped.{Stopped}
use Rattle.dcp_commands.specs.declared.stopped.Stopped.TheVariants as stop
use Rattle.dcp_commands.specs.declared.status.Status.{Status}
use Rattle.dcp_commands.specs.declared.status.Status.TheVariants.{Done, Usage, ProjectRefused, InputMissing, InputShort, SourceFault, StoreFault, SinkFault, NoMemory, BadFrame, NoSuchFrame, BadStream, InputTooLong}

-- ---- what the files lead to

-- what frame f of the project shows
abbrev pub cell_of : ProjectFacts → ℕ → Cell
cell_of project f = slice_index_or (cells_of project) f Black

abbrev pub of_cell : ℕ → Result Shown CellEnd → Result (List ℕ) Status
of_cell f (Ok shown) = Ok shown.value
of_cell f (Err end) = Err (frame_status (frame_end f end))

abbrev pub with_project : Files → ℕ → Result ProjectFacts PlanEnd → Result (List ℕ) Status
with_project files f (Err end) = Err (plan_status end)
with_project files f (Ok project) =
    if nat_lt f project.frames then of_cell f (cell_shown files project (cell_of project f)) else Err (NoSuchFrame f project.frames)

-- the codestream of frame f of the project of this name, or how the command ends, also where the project has sound
abbrev pub frame_answer : Files → List ℕ → ℕ → Result (List ℕ) Status
frame_answer files name f = with_project files f (planned files name)

-- the text of `Done`: a codestream that a frame of a project may have, and where the source tells its contents that of frame f
pub record IsFrameText (tells : Type 0) (files : Files) (name : List ℕ) (f : ℕ) (text : List ℕ) : Type 0 where
  pub project : ProjectFacts
  pub rules : IsProject project
  pub value : IsFrameValue project text
  pub told : tells → frame_answer files name f ≡ Ok text

-- ---- why there is no text, and why it ended so

-- the file of frame f of a project that keeps the rules
pub record IsFrameFile (f : ℕ) (name : List ℕ) : Type 0 where
  pub project : ProjectFacts
  pub rules : IsProject project
  pub there : f < project.frames
  pub file : IsInFile project (cell_of project f) name

-- the project's file, a single file of a project that keeps the rules, or that of its frame f
abbrev pub IsFrameInput : List ℕ → ℕ → List ℕ → Type 0
IsFrameInput file f name = IsInputName file name ⊎ IsFrameFile f name

-- an input of a project that keeps the rules breaks its form so
pub record IsFaultOfSome (why : BadWhy) : Type 0 where
  pub project : ProjectFacts
  pub rules : IsProject project
  pub fault : IsFault project why

-- Devices are given by what they tell and count, and by their states before and now.
module _ {A : Type 0} (tells : Type 0) (files : Files) (name : List ℕ) (f : ℕ) (absent faults : A → ℕ) (before now : A) where
  abbrev pub IsAnswer : Status → Type 0
  IsAnswer status = tells → frame_answer files name f ≡ Err status

  -- the frame of the project ended so
  pub record IsFrameStop (end : FrameEnd) : Type 0 where
    pub project : ProjectFacts
    pub rules : IsProject project
    pub there : f < project.frames
    pub told : tells → planned files name ≡ Ok project
    pub cause : IsSingleCause tells files project f (cell_of project f) absent faults before now end

  abbrev pub IsStop : Stopped → Type 0
  IsStop stop.Usage = ⊥
  IsStop (stop.Plan end) = IsPlanCause tells files name absent faults before now end
  IsStop (stop.Make end) = ⊥
  IsStop (stop.Read end) = ⊥
  IsStop (stop.Frame end) = IsFrameStop end
  IsStop (stop.NoSuchFrame frame frames) = (frame ≡ f) × (frames ≤ frame) × IsAnswer (NoSuchFrame frame frames)
  IsStop stop.NoMemory = ⊤

  -- {C} is the sink
  abbrev pub IsCause : {C : Type 0} → (C → ℕ) → C → C → Status → Type 0
  IsCause sink_faults out out_now Done = (faults now ≡ faults before) × (sink_faults out_now ≡ sink_faults out)
  IsCause sink_faults out out_now (ProjectRefused refusal) = IsAnswer (ProjectRefused refusal)
  IsCause sink_faults out out_now (InputMissing n) = HasRisen (absent before) (absent now) × IsFrameInput name f n × IsAnswer (InputMissing n)
  IsCause sink_faults out out_now (InputShort asset size need) = (size < need) × IsAnswer (InputShort asset size need)
  IsCause sink_faults out out_now SourceFault = HasRisen (faults before) (faults now)
  IsCause sink_faults out out_now SinkFault = HasRisen (sink_faults out) (sink_faults out_now)
  IsCause sink_faults out out_now NoMemory = ⊤
  IsCause sink_faults out out_now (BadFrame frame why) = (frame ≡ f) × IsFaultOfSome why × IsAnswer (BadFrame frame why)
  IsCause sink_faults out out_now (NoSuchFrame frame frames) = (frame ≡ f) × (frames ≤ frame) × IsAnswer (NoSuchFrame frame frames)
  IsCause sink_faults out out_now Usage = ⊥
  IsCause sink_faults out out_now StoreFault = ⊥
  IsCause sink_faults out out_now (BadStream refusal) = ⊥
  IsCause sink_faults out out_now (InputTooLong size) = ⊥
