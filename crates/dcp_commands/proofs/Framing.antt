-- How a run of `frame` ends, from how its parts end.
use Rattle.std.proofs.Common.{◌≡◌, ◌≢◌, ℕ, ◌<◌, ◌≤◌, List, Ok, Err, cond, false, true, refl, inl, inr, ap, sym, subst, ◌∙◌, arith}
use Rattle.std.proofs.lemmas.Bool.Decides.{nat_tests}
use Rattle.std.specs.Prelude.{◌⊎◌, IfErr, IfOk, IsOk, OnOk, Result, nat_lt}
use Rattle.film_inputs.specs.Inputs.{planned}
use Rattle.film_inputs.specs.declared.ends.InputEnd.TheVariants as input
use Rattle.film_inputs.specs.declared.ends.PlanEnd.{PlanEnd}
use Rattle.film_inputs.specs.declared.ends.PlanEnd.TheVariants as of_plan
use Rattle.film_plan.specs.declared.refusal.PlanRefusal.TheVariants as short
use Rattle.film_project.specs.Facts.{ProjectFacts}
use Rattle.film_project.specs.declared.refusal.ProjectRefusal.{ProjectRefusal}
use Rattle.frame_values.specs.Causes.{Shows}
use Rattle.frame_values.specs.Shown.{cell_shown}
use Rattle.frame_values.specs.declared.ends.BadWhy.{BadWhy}
use Rattle.picture_track.specs.Causes.{IsSingleCause}
use Rattle.picture_track.specs.declared.outcome.FrameEnd.{FrameEnd}
use Rattle.picture_track.specs.declared.outcome.FrameEnd.TheVariants as of_frame
use Rattle.mast_world.specs.Content.{Files}
use Rattle.mast_world.specs.Count.{HasRisen}
use Rattle.dcp_commands.specs.Frame.{IsCause, IsFrameStop, IsFrameText, IsStop, cell_of, frame_answer, of_cell, with_project}
use Rattle.dcp_commands.specs.Plan.{status_in}
use Rattle.dcp_commands.specs.Status.{Answers, frame_status, plan_status, refused_status, status_of, stopped_status}
use Rattle.dcp_commands.specs.declared.stopped.Stopped.{Stopped}
use Rattle.dcp_commands.specs.declared.stopped.Stopped.TheVariants as stop
use Rattle.dcp_commands.specs.declared.status.Status.{Status}
use Rattle.dcp_commands.specs.declared.status.Status.TheVariants.{Done, SourceFault, SinkFault, NoMemory, BadFrame, NoSuchFrame}
use Rattle.dcp_commands.proofs.Making.{told_answer, told_apart}

-- ---- what the files lead to

tested : (f frames : ℕ) → f < frames → nat_lt f frames ≡ true
tested f frames below = grind (arith, nat_tests)

untested : (f frames : ℕ) → frames ≤ f → nat_lt f frames ≡ false
untested f frames past = grind (arith, nat_tests)

-- a frame of the project is what its cell shows
pub answer_of_cell : (files : Files) (name : List ℕ) (f : ℕ) (project : ProjectFacts) → planned files name ≡ Ok project → f < project.frames → frame_answer files name f ≡ of_cell f (cell_shown files project (cell_of project f))
answer_of_cell files name f project is below =
    ap (with_project files f) is ∙ ap (λ b. cond b (of_cell f (cell_shown files project (cell_of project f))) (Err (NoSuchFrame f project.frames))) (tested f project.frames below)

-- behind the last one there is none
pub answer_of_none : (files : Files) (name : List ℕ) (f : ℕ) (project : ProjectFacts) → planned files name ≡ Ok project → project.frames ≤ f → frame_answer files name f ≡ Err (NoSuchFrame f project.frames)
answer_of_none files name f project is past =
    ap (with_project files f) is ∙ ap (λ b. cond b (of_cell f (cell_shown files project (cell_of project f))) (Err (NoSuchFrame f project.frames))) (untested f project.frames past)

pub answer_of_plan : (files : Files) (name : List ℕ) (f : ℕ) (end : PlanEnd) → planned files name ≡ Err end → frame_answer files name f ≡ Err (plan_status end)
answer_of_plan files name f end is = ap (with_project files f) is

-- the bytes that the cell shows are the answer
pub answer_shown :
    (files : Files) (name : List ℕ) (f : ℕ) (project : ProjectFacts) (bytes : List ℕ) (before now : ℕ) → planned files name ≡ Ok project → f < project.frames →
    Shows files project (cell_of project f) bytes before now → frame_answer files name f ≡ Ok bytes
answer_shown files name f project bytes before now is below it =
    answer_of_cell files name f project is below ∙ ap (of_cell f) it.is ∙ ap Ok (sym it.value)

-- ---- causes

-- why there is no frame, as it is seen from an earlier state of the source
pub single_cause :
    {A : Type 0} (tells : Type 0) (files : Files) (project : ProjectFacts) (f : ℕ) (absent faults : A → ℕ) (before between now : A) (end : FrameEnd) →
    absent before ≤ absent between → faults before ≤ faults between →
    IsSingleCause tells files project f (cell_of project f) absent faults between now end → IsSingleCause tells files project f (cell_of project f) absent faults before now end
single_cause tells files project f absent faults before between now (of_frame.Missing name) fewer less is = (is.0, omega (arith, is.1, fewer), is.2)
single_cause tells files project f absent faults before between now (of_frame.Bad frame why) fewer less is = is
single_cause tells files project f absent faults before between now of_frame.SourceFault fewer less is = omega (arith, is, less)
single_cause tells files project f absent faults before between now of_frame.NoMemory fewer less is = tt

module _ {A C : Type 0} (tells : Type 0) (files : Files) (name : List ℕ) (f : ℕ) (absent faults : A → ℕ) (before now : A) (sink_faults : C → ℕ) (out out_now : C) where
  abbrev Stops : Stopped → Type 0
  Stops = IsStop tells files name f absent faults before now

  abbrev FrameStops : FrameEnd → Type 0
  FrameStops = IsFrameStop tells files name f absent faults before now

  abbrev Causes : Status → Type 0
  Causes = IsCause tells files name f absent faults before now sink_faults out out_now

  abbrev Rose : Type 0
  Rose = HasRisen (sink_faults out) (sink_faults out_now)

  abbrev Ends : Status → Type 0
  Ends status = frame_answer files name f ≡ Err status

  missing_ends : (n : List ℕ) → (is : FrameStops (of_frame.Missing n)) → tells → Ends (frame_status (of_frame.Missing n))
  missing_ends n is tell = answer_of_cell files name f is.project (is.told tell) is.there ∙ ap (of_cell f) (is.cause.2 tell)

  bad_ends : (frame : ℕ) (why : BadWhy) → (is : FrameStops (of_frame.Bad frame why)) → tells → Ends (BadFrame frame why)
  bad_ends frame why is tell =
      answer_of_cell files name f is.project (is.told tell) is.there ∙ ap (of_cell f) (is.cause.2 tell) ∙ ap (λ n. Err (BadFrame n why)) (sym is.cause.0)

  refused_cause : (refusal : ProjectRefusal) → Stops (stop.Plan (of_plan.Project refusal)) → Causes (refused_status refusal)
  refused_cause refusal is = elim (told_apart refusal) [
    | inl memory ↦ subst (λ refusal. Causes (refused_status refusal)) (sym memory) tt
    | inr other ↦ subst Causes (sym other.1) (λ tell. answer_of_plan files name f (of_plan.Project refusal) (is other.0 tell) ∙ ap Err other.1)
  ]

  stop_cause : (stopped : Stopped) → Stops stopped → Causes (stopped_status stopped)
  stop_cause stop.Usage is = absurd is
  stop_cause (stop.Plan (of_plan.Input (input.Missing n))) is =
      (is.1, inl is.0.0, λ tell. answer_of_plan files name f (of_plan.Input (input.Missing n)) (is.0.1 tell))
  stop_cause (stop.Plan (of_plan.Input input.SourceFault)) is = is
  stop_cause (stop.Plan (of_plan.Input input.NoMemory)) is = tt
  stop_cause (stop.Plan (of_plan.Project refusal)) is = refused_cause refusal is
  stop_cause (stop.Plan (of_plan.Plan (short.InputShort asset size need))) is =
      (is.0, λ tell. answer_of_plan files name f (of_plan.Plan (short.InputShort asset size need)) (is.1 tell))
  stop_cause (stop.Plan (of_plan.Plan short.NoMemory)) is = tt
  stop_cause (stop.Make end) is = absurd is
  stop_cause (stop.Read end) is = absurd is
  stop_cause (stop.Frame (of_frame.Missing n)) is =
      (is.cause.1, inr (record { project = is.project; rules = is.rules; there = is.there; file = is.cause.0 }), missing_ends n is)
  stop_cause (stop.Frame (of_frame.Bad frame why)) is =
      (is.cause.0, record { project = is.project; rules = is.rules; fault = is.cause.1 }, bad_ends frame why is)
  stop_cause (stop.Frame of_frame.SourceFault) is = is.cause
  stop_cause (stop.Frame of_frame.NoMemory) is = tt
  stop_cause (stop.NoSuchFrame frame frames) is = is
  stop_cause stop.NoMemory is = tt

  answered : (result status : Status) → Answers result status → (result ≡ SinkFault → Rose) → Causes status → Causes result
  answered result status (inl is) risen cause = subst Causes (sym is) cause
  answered result status (inr (inl is)) risen cause = subst Causes (sym is) (risen is)
  answered result status (inr (inr is)) risen cause = subst Causes (sym is) tt

  pub outcome_cause :
      {T : Type 0} (result : Status) (outcome : Result T Stopped) → Answers result (status_of outcome) → OnOk outcome (faults now ≡ faults before) → IfErr outcome Stops →
      (result ≡ SinkFault → Rose) → (result ≢ SinkFault → sink_faults out_now ≡ sink_faults out) → Causes result
  outcome_cause result (Ok x) (inl is) source stops risen same = subst Causes (sym is) (source, same (λ fault. cc (is, fault)))
  outcome_cause result (Ok x) (inr (inl is)) source stops risen same = subst Causes (sym is) (risen is)
  outcome_cause result (Ok x) (inr (inr is)) source stops risen same = subst Causes (sym is) tt
  outcome_cause result (Err stopped) answer source stops risen same = answered result (stopped_status stopped) answer risen (stop_cause stopped stops)

  -- ---- the answer of the files, a source's fault, or want of memory

  abbrev Stopping : Status → Type 0
  Stopping status = Ends status ⊎ ((status ≡ SourceFault) × HasRisen (faults before) (faults now)) ⊎ (status ≡ NoMemory)

  refused_ends : (refusal : ProjectRefusal) → tells → Stops (stop.Plan (of_plan.Project refusal)) → Stopping (refused_status refusal)
  refused_ends refusal tell is = elim (told_apart refusal) [
    | inl memory ↦ inr (inr (ap refused_status memory))
    | inr other ↦ inl (answer_of_plan files name f (of_plan.Project refusal) (is other.0 tell))
  ]

  stop_ends : (stopped : Stopped) → tells → Stops stopped → Stopping (stopped_status stopped)
  stop_ends stop.Usage tell is = absurd is
  stop_ends (stop.Plan (of_plan.Input (input.Missing n))) tell is = inl (answer_of_plan files name f (of_plan.Input (input.Missing n)) (is.0.1 tell))
  stop_ends (stop.Plan (of_plan.Input input.SourceFault)) tell is = inr (inl (refl, is))
  stop_ends (stop.Plan (of_plan.Input input.NoMemory)) tell is = inr (inr refl)
  stop_ends (stop.Plan (of_plan.Project refusal)) tell is = refused_ends refusal tell is
  stop_ends (stop.Plan (of_plan.Plan (short.InputShort asset size need))) tell is =
      inl (answer_of_plan files name f (of_plan.Plan (short.InputShort asset size need)) (is.1 tell))
  stop_ends (stop.Plan (of_plan.Plan short.NoMemory)) tell is = inr (inr refl)
  stop_ends (stop.Make end) tell is = absurd is
  stop_ends (stop.Read end) tell is = absurd is
  stop_ends (stop.Frame (of_frame.Missing n)) tell is = inl (missing_ends n is tell)
  stop_ends (stop.Frame (of_frame.Bad frame why)) tell is = inl (bad_ends frame why is tell)
  stop_ends (stop.Frame of_frame.SourceFault) tell is = inr (inl (refl, is.cause))
  stop_ends (stop.Frame of_frame.NoMemory) tell is = inr (inr refl)
  stop_ends (stop.NoSuchFrame frame frames) tell is = inl (is.2 tell)
  stop_ends stop.NoMemory tell is = inr (inr refl)

  abbrev Wanted : Status
  Wanted = status_in (frame_answer files name f)

  stop_told : (status : Status) → Stopping status → (status ≡ Wanted) ⊎ (status ≡ SourceFault) ⊎ (status ≡ NoMemory)
  stop_told status (inl is) = inl (sym (ap status_in is))
  stop_told status (inr (inl is)) = inr (inl is.0)
  stop_told status (inr (inr is)) = inr (inr is)

  pub outcome_told :
      (result : Status) (outcome : Result (List ℕ) Stopped) → tells → Answers result (status_of outcome) → IfOk outcome (IsFrameText tells files name f) → IfErr outcome Stops →
      (result ≡ SourceFault) ⊎ Answers result Wanted
  outcome_told result (Ok text) tell answer made stops = inr (subst (Answers result) (sym (ap status_in (made.told tell))) answer)
  outcome_told result (Err stopped) tell answer made stops =
      told_answer result (stopped_status stopped) Wanted answer (stop_told (stopped_status stopped) (stop_ends stopped tell stops))

  -- an ending is none of a frame that is shown
  end_left : (status : Status) (r : Result (List ℕ) Status) → IsOk r → r ≡ Err status → ⊥
  end_left status (Ok text) ok is = cc
  end_left status (Err other) ok is = absurd (cc)

  stop_left : (status : Status) → IsOk (frame_answer files name f) → ¬ HasRisen (faults before) (faults now) → Stopping status → status ≡ NoMemory
  stop_left status ok calm (inl is) = absurd (end_left status (frame_answer files name f) ok is)
  stop_left status ok calm (inr (inl is)) = absurd (calm is.1)
  stop_left status ok calm (inr (inr is)) = is

  pub outcome_left :
      {T : Type 0} (result : Status) (outcome : Result T Stopped) → tells → IsOk (frame_answer files name f) → ¬ HasRisen (faults before) (faults now) → ¬ Rose →
      Answers result (status_of outcome) → (result ≡ SinkFault → Rose) → IfErr outcome Stops → (result ≡ Done) ⊎ (result ≡ NoMemory)
  outcome_left result (Ok x) tell ok calm quiet (inl is) risen stops = inl is
  outcome_left result (Ok x) tell ok calm quiet (inr (inl is)) risen stops = absurd (quiet (risen is))
  outcome_left result (Ok x) tell ok calm quiet (inr (inr is)) risen stops = inr is
  outcome_left result (Err stopped) tell ok calm quiet (inl is) risen stops =
      inr (is ∙ stop_left (stopped_status stopped) ok calm (stop_ends stopped tell stops))
  outcome_left result (Err stopped) tell ok calm quiet (inr (inl is)) risen stops = absurd (quiet (risen is))
  outcome_left result (Err stopped) tell ok calm quiet (inr (inr is)) risen stops = inr is
