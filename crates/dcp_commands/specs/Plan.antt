-- What `plan` prints.
use Rattle.std.specs.Prelude.{◌≡◌, ℕ, ◌<◌, codes, List, ◌++◌, length, filter, Option, Some, None, Result, Ok, Err, ⊤}
use Rattle.std.specs.Fmt.{decimal}
use Rattle.film_plan.specs.Plan.{limits_of}
use Rattle.film_project.specs.Facts.{ProjectFacts}
use Rattle.film_timeline.specs.Timeline.{cells_of, fresh_cells, is_black}
use Rattle.film_timeline.specs.declared.cell.Cell.{Cell}
use Rattle.mast_world.specs.Content.{Files}
use Rattle.mast_base.specs.declared.limits.Limits.{Limits}
use Rattle.film_inputs.specs.Causes.{IsInputName, IsPlanCause}
use Rattle.film_inputs.specs.Inputs.{planned}
use Rattle.mast_world.specs.Count.{HasRisen}
use Rattle.dcp_commands.specs.Status.{plan_status}
use Rattle.dcp_commands.specs.Words.{plan_words}
use Rattle.film_inputs.specs.declared.ends.PlanEnd.{PlanEnd}
use Rattle.dcp_commands.specs.declared.stopped.Stopped.{Stopped}
use Rattle.dcp_commands.specs.declared.stopped.Stopped.TheVariants as stop
use Rattle.dcp_commands.specs.declared.status.Status.{Status}
use Rattle.dcp_commands.specs.declared.status.Status.TheVariants.{Done, Usage, ProjectRefused, InputMissing, InputShort, SourceFault, StoreFault, SinkFault, NoMemory, BadFrame, NoSuchFrame, BadStream, InputTooLong}

abbrev pub size_text : ProjectFacts → List ℕ
size_text project =
    codes "frames " ++ (decimal project.frames ++ (codes "\nsize " ++ (decimal project.width ++ (codes "x" ++ (decimal project.height
    ++ (codes "\nfps " ++ (decimal project.fps ++ codes "\n")))))))

abbrev pub limit_text : Limits → List ℕ
limit_text limits = codes "limit " ++ (decimal limits.frame ++ (codes "\ncomponent " ++ (decimal limits.component ++ codes "\n")))

abbrev pub count_text : List Cell → List ℕ
count_text cells = codes "fresh " ++ (decimal (length (fresh_cells cells)) ++ (codes "\nblack " ++ (decimal (length (filter is_black cells)) ++ codes "\n")))

-- its lines
abbrev pub plan_text : ProjectFacts → List ℕ
plan_text project = size_text project ++ limit_text (limits_of project) ++ count_text (cells_of project)

abbrev pub of_plan : Result ProjectFacts PlanEnd → Result ProjectFacts Status
of_plan (Ok project) = Ok project
of_plan (Err end) = Err (plan_status end)

abbrev pub with_name : Files → Option (List ℕ) → Result ProjectFacts Status
with_name files None = Err Usage
with_name files (Some name) = of_plan (planned files name)

-- the project that the words of `plan` name, or how the command ends
abbrev pub checked_plan : Files → List (List ℕ) → Result ProjectFacts Status
checked_plan files words = with_name files (plan_words words)

abbrev pub status_in : {T : Type 0} → Result T Status → Status
status_in (Ok x) = Done
status_in (Err status) = status

-- the text of `Done`: the plan of the project that the words name
pub record IsPlanText (tells : Type 0) (files : Files) (words : List (List ℕ)) (text : List ℕ) : Type 0 where
  pub project : ProjectFacts
  pub is : text ≡ plan_text project
  pub told : tells → checked_plan files words ≡ Ok project

-- why `plan` has no text, and why it ended so. Devices are given by what they tell and count, and by their states before and now.
module _ {A : Type 0} (tells : Type 0) (files : Files) (words : List (List ℕ)) (absent faults : A → ℕ) (before now : A) where
  pub record IsPlanStop (end : PlanEnd) : Type 0 where
    pub asked : List ℕ
    pub accepted : plan_words words ≡ Some asked
    pub cause : IsPlanCause tells files asked absent faults before now end

  abbrev pub IsStop : Stopped → Type 0
  IsStop stop.Usage = plan_words words ≡ None
  IsStop (stop.Plan end) = IsPlanStop end
  IsStop (stop.Make end) = ⊥
  IsStop (stop.Read end) = ⊥
  IsStop (stop.Frame end) = ⊥
  IsStop (stop.NoSuchFrame frame frames) = ⊥
  IsStop stop.NoMemory = ⊤

  abbrev pub IsPlanned : Status → Type 0
  IsPlanned status = tells → checked_plan files words ≡ Err status

  -- the words' project, or a single file of a project that keeps the rules
  abbrev pub IsNamedInput : List ℕ → Type 0
  IsNamedInput name = (asked : List ℕ) × (plan_words words ≡ Some asked) × IsInputName asked name

  -- {C} is the sink
  abbrev pub IsCause : {C : Type 0} → (C → ℕ) → C → C → Status → Type 0
  IsCause sink_faults out out_now Done = (faults now ≡ faults before) × (sink_faults out_now ≡ sink_faults out)
  IsCause sink_faults out out_now Usage = plan_words words ≡ None
  IsCause sink_faults out out_now (ProjectRefused refusal) = IsPlanned (ProjectRefused refusal)
  IsCause sink_faults out out_now (InputMissing name) =
      HasRisen (absent before) (absent now) × IsNamedInput name × IsPlanned (InputMissing name)
  IsCause sink_faults out out_now (InputShort asset size need) = (size < need) × IsPlanned (InputShort asset size need)
  IsCause sink_faults out out_now SourceFault = HasRisen (faults before) (faults now)
  IsCause sink_faults out out_now SinkFault = HasRisen (sink_faults out) (sink_faults out_now)
  IsCause sink_faults out out_now NoMemory = ⊤
  IsCause sink_faults out out_now StoreFault = ⊥
  IsCause sink_faults out out_now (BadFrame frame why) = ⊥
  IsCause sink_faults out out_now (NoSuchFrame frame frames) = ⊥
  IsCause sink_faults out out_now (BadStream refusal) = ⊥
  IsCause sink_faults out out_now (InputTooLong size) = ⊥
