-- What `run` prints, and why it ends so, whichever command it is asked for.
use Rattle.std.specs.Prelude.{◌≡◌, ◌⊎◌, ℕ, ◌<◌, ◌≤◌, List, Option, Some, None, IsSome, Result, Ok, Err, ⊤}
use Rattle.film_inputs.specs.Causes.{IsInputName}
use Rattle.film_project.specs.Facts.{ProjectFacts}
use Rattle.film_project.specs.Rules.{IsProject}
use Rattle.frame_values.specs.Causes.{IsFrameValue}
use Rattle.mast_world.specs.Content.{Files}
use Rattle.mast_world.specs.Count.{HasRisen}
use Rattle.stream_inspect.specs.Causes.{IsRefusalOf, IsToldOf}
use Rattle.stream_inspect.specs.Inspect.{greatest_size}
use Rattle.stream_inspect.specs.declared.file.Inspected.{Inspected}
use Rattle.dcp_commands.specs.Frame.{IsFaultOfSome, IsFrameInput, frame_answer}
use Rattle.dcp_commands.specs.Plan.{checked_plan, plan_text}
use Rattle.dcp_commands.specs.Read.{read_answer, read_text}
use Rattle.dcp_commands.specs.Words.{FrameWords, frame_words, plan_words, read_words}
use Rattle.dcp_commands.specs.declared.status.Status.{Status}
use Rattle.dcp_commands.specs.declared.status.Status.TheVariants.{Done, Usage, ProjectRefused, InputMissing, InputShort, SourceFault, StoreFault, SinkFault, NoMemory, BadFrame, NoSuchFrame, BadStream, InputTooLong}

abbrev pub plan_answer : Result ProjectFacts Status → Result (List ℕ) Status
plan_answer (Ok project) = Ok (plan_text project)
plan_answer (Err status) = Err status

abbrev pub with_frame : Files → List (List ℕ) → Option FrameWords → Result (List ℕ) Status
with_frame files words (Some asked) = frame_answer files asked.project asked.number
with_frame files words None = plan_answer (checked_plan files words)

abbrev pub with_file : Files → List (List ℕ) → Option (List ℕ) → Result (List ℕ) Status
with_file files words (Some name) = read_answer files name
with_file files words None = with_frame files words (frame_words words)

-- what the words ask for: the lines of a file or of a plan, or a codestream; or how the command ends
abbrev pub run_answer : Files → List (List ℕ) → Result (List ℕ) Status
run_answer files words = with_file files words (read_words words)

-- a codestream that a frame of a project may have
pub record IsValueOfSome (text : List ℕ) : Type 0 where
  pub project : ProjectFacts
  pub rules : IsProject project
  pub value : IsFrameValue project text

-- the lines of a project's plan, or of what is told of some bytes; or a frame's codestream
abbrev pub IsAnyText : List ℕ → Type 0
IsAnyText text =
    ((project : ProjectFacts) × (text ≡ plan_text project))
    ⊎ ((it : Inspected) × IsToldOf it × (text ≡ read_text it))
    ⊎ IsValueOfSome text

-- the text of `Done`: where the source tells its contents, that which the words ask for
pub record IsRunText (tells : Type 0) (files : Files) (words : List (List ℕ)) (text : List ℕ) : Type 0 where
  pub of : IsAnyText text
  pub told : tells → run_answer files words ≡ Ok text

-- ---- names in the words

-- the words ask for this frame
abbrev pub IsAskedFrame : List (List ℕ) → ℕ → Type 0
IsAskedFrame words f = (asked : FrameWords) × (frame_words words ≡ Some asked) × (f ≡ asked.number)

-- the words' project, a single file of a project that keeps the rules, or the file of its frame that they name
abbrev pub IsFrameNamed : List (List ℕ) → List ℕ → Type 0
IsFrameNamed words name = (asked : FrameWords) × (frame_words words ≡ Some asked) × IsFrameInput asked.project asked.number name

-- the words' project, or a single file of a project that keeps the rules
abbrev pub IsPlanNamed : List (List ℕ) → List ℕ → Type 0
IsPlanNamed words name = (asked : List ℕ) × (plan_words words ≡ Some asked) × IsInputName asked name

-- the file that is to be read, or an input of what is to be planned or shown
abbrev pub IsNamed : List (List ℕ) → List ℕ → Type 0
IsNamed words name = (read_words words ≡ Some name) ⊎ IsPlanNamed words name ⊎ IsFrameNamed words name

-- Devices are given by what they tell and count, and by their states before and now.
module _ {A : Type 0} (tells : Type 0) (files : Files) (words : List (List ℕ)) (absent faults : A → ℕ) (before now : A) where
  -- words and files end the command so
  abbrev pub IsEnd : Status → Type 0
  IsEnd status = tells → run_answer files words ≡ Err status

  -- the words are no accepted command
  abbrev pub IsUsage : Type 0
  IsUsage = (plan_words words ≡ None) × (frame_words words ≡ None) × (read_words words ≡ None)

  -- {C} is the sink
  abbrev pub IsCause : {C : Type 0} → (C → ℕ) → C → C → Status → Type 0
  IsCause sink_faults out out_now Done = (faults now ≡ faults before) × (sink_faults out_now ≡ sink_faults out)
  IsCause sink_faults out out_now Usage = IsUsage
  IsCause sink_faults out out_now (ProjectRefused refusal) = IsEnd (ProjectRefused refusal)
  IsCause sink_faults out out_now (InputMissing name) = HasRisen (absent before) (absent now) × IsNamed words name × IsEnd (InputMissing name)
  IsCause sink_faults out out_now (InputShort asset size need) = (size < need) × IsEnd (InputShort asset size need)
  IsCause sink_faults out out_now SourceFault = HasRisen (faults before) (faults now)
  IsCause sink_faults out out_now SinkFault = HasRisen (sink_faults out) (sink_faults out_now)
  IsCause sink_faults out out_now NoMemory = ⊤
  IsCause sink_faults out out_now (BadFrame frame why) = IsAskedFrame words frame × IsFaultOfSome why × IsEnd (BadFrame frame why)
  IsCause sink_faults out out_now (NoSuchFrame frame frames) =
      IsAskedFrame words frame × (frames ≤ frame) × IsEnd (NoSuchFrame frame frames)
  IsCause sink_faults out out_now (BadStream refusal) = IsSome (read_words words) × IsRefusalOf refusal × IsEnd (BadStream refusal)
  IsCause sink_faults out out_now (InputTooLong size) = IsSome (read_words words) × (greatest_size < size) × IsEnd (InputTooLong size)
  IsCause sink_faults out out_now StoreFault = ⊥
