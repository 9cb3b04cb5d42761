-- How a run of `read` ends, from how its parts end.
use Rattle.std.proofs.Common.{◌≡◌, ◌≢◌, ℕ, List, Ok, Err, refl, inl, inr, ap, sym, subst, ◌∙◌}
use Rattle.std.specs.Prelude.{◌⊎◌, IfErr, IfOk, IsOk, OnOk, Result}
use Rattle.mast_world.specs.Content.{Files}
use Rattle.mast_world.specs.Count.{HasRisen}
use Rattle.stream_inspect.specs.declared.ends.InspectEnd.{InspectEnd}
use Rattle.stream_inspect.specs.declared.ends.InspectEnd.TheVariants as of_read
use Rattle.dcp_commands.specs.Plan.{status_in}
use Rattle.dcp_commands.specs.Read.{IsCause, IsReadText, IsStop, lines_of, read_answer}
use Rattle.dcp_commands.specs.Status.{Answers, read_status, status_of, stopped_status}
use Rattle.dcp_commands.specs.declared.stopped.Stopped.{Stopped}
use Rattle.dcp_commands.specs.declared.stopped.Stopped.TheVariants as stop
use Rattle.dcp_commands.specs.declared.status.Status.{Status}
use Rattle.dcp_commands.specs.declared.status.Status.TheVariants.{Done, SourceFault, SinkFault, NoMemory}
use Rattle.dcp_commands.proofs.Making.{told_answer}

module _ {A C : Type 0} (tells : Type 0) (files : Files) (name : List ℕ) (absent faults : A → ℕ) (before now : A) (sink_faults : C → ℕ) (out out_now : C) where
  abbrev Stops : Stopped → Type 0
  Stops = IsStop tells files name absent faults before now

  abbrev Causes : Status → Type 0
  Causes = IsCause tells files name absent faults before now sink_faults out out_now

  abbrev Rose : Type 0
  Rose = HasRisen (sink_faults out) (sink_faults out_now)

  stop_cause : (stopped : Stopped) → Stops stopped → Causes (stopped_status stopped)
  stop_cause stop.Usage is = absurd is
  stop_cause (stop.Plan end) is = absurd is
  stop_cause (stop.Make end) is = absurd is
  stop_cause (stop.Read (of_read.Missing n)) is = (is.0, is.1, λ tell. ap lines_of (is.2 tell))
  stop_cause (stop.Read (of_read.TooLong size)) is = (is.0, λ tell. ap lines_of (is.1 tell))
  stop_cause (stop.Read (of_read.Bad refusal)) is = (is.0, λ tell. ap lines_of (is.1 tell))
  stop_cause (stop.Read of_read.Fault) is = is
  stop_cause (stop.Read of_read.NoMemory) is = tt
  stop_cause (stop.Frame end) is = absurd is
  stop_cause (stop.NoSuchFrame frame frames) is = absurd is
  stop_cause stop.NoMemory is = tt

  answered : (result status : Status) → Answers result status → (result ≡ SinkFault → Rose) → Causes status → Causes result
  answered result status (inl is) risen cause = subst Causes (sym is) cause
  answered result status (inr (inl is)) risen cause = subst Causes (sym is) (risen is)
  answered result status (inr (inr is)) risen cause = subst Causes (sym is) tt

  pub outcome_cause :
      {T : Type 0} (result : Status) (outcome : Result T Stopped) → Answers result (status_of outcome) → OnOk outcome (faults now ≡ faults before) → IfErr outcome Stops →
      (result ≡ SinkFault → Rose) → (result ≢ SinkFault → sink_faults out_now ≡ sink_faults out) → Causes result
  outcome_cause result (Ok x) (inl is) source stops risen same = subst Causes (sym is) (source, same (λ fault. cc (is, fault)))
  outcome_cause result (Ok x) (inr (inl is)) source stops risen same = subst Causes (sym is) (risen is)
  outcome_cause result (Ok x) (inr (inr is)) source stops risen same = subst Causes (sym is) tt
  outcome_cause result (Err stopped) answer source stops risen same = answered result (stopped_status stopped) answer risen (stop_cause stopped stops)

  abbrev Wanted : Status
  Wanted = status_in (read_answer files name)

  stop_told : (stopped : Stopped) → tells → Stops stopped → (stopped_status stopped ≡ Wanted) ⊎ (stopped_status stopped ≡ SourceFault) ⊎ (stopped_status stopped ≡ NoMemory)
  stop_told stop.Usage tell is = absurd is
  stop_told (stop.Plan end) tell is = absurd is
  stop_told (stop.Make end) tell is = absurd is
  stop_told (stop.Read (of_read.Missing n)) tell is = inl (sym (ap (λ r. status_in (lines_of r)) (is.2 tell)))
  stop_told (stop.Read (of_read.TooLong size)) tell is = inl (sym (ap (λ r. status_in (lines_of r)) (is.1 tell)))
  stop_told (stop.Read (of_read.Bad refusal)) tell is = inl (sym (ap (λ r. status_in (lines_of r)) (is.1 tell)))
  stop_told (stop.Read of_read.Fault) tell is = inr (inl refl)
  stop_told (stop.Read of_read.NoMemory) tell is = inr (inr refl)
  stop_told (stop.Frame end) tell is = absurd is
  stop_told (stop.NoSuchFrame frame frames) tell is = absurd is
  stop_told stop.NoMemory tell is = inr (inr refl)

  pub outcome_told :
      (result : Status) (outcome : Result (List ℕ) Stopped) → tells → Answers result (status_of outcome) → IfOk outcome (IsReadText tells files name) → IfErr outcome Stops →
      (result ≡ SourceFault) ⊎ Answers result Wanted
  outcome_told result (Ok text) tell answer made stops =
      inr (subst (Answers result) (sym (ap (λ r. status_in (lines_of r)) (made.told tell))) answer)
  outcome_told result (Err stopped) tell answer made stops = told_answer result (stopped_status stopped) Wanted answer (stop_told stopped tell stops)

  -- an ending is none of a file that is told of
  end_left : (end : InspectEnd) (r : Result (List ℕ) Status) → IsOk r → r ≡ Err (read_status end) → ⊥
  end_left end (Ok text) ok is = cc
  end_left end (Err status) ok is = absurd (cc)

  stop_left : (stopped : Stopped) → tells → IsOk (read_answer files name) → ¬ HasRisen (faults before) (faults now) → Stops stopped → stopped_status stopped ≡ NoMemory
  stop_left stop.Usage tell ok calm is = absurd is
  stop_left (stop.Plan end) tell ok calm is = absurd is
  stop_left (stop.Make end) tell ok calm is = absurd is
  stop_left (stop.Read (of_read.Missing n)) tell ok calm is = absurd (end_left (of_read.Missing n) (read_answer files name) ok (ap lines_of (is.2 tell)))
  stop_left (stop.Read (of_read.TooLong size)) tell ok calm is = absurd (end_left (of_read.TooLong size) (read_answer files name) ok (ap lines_of (is.1 tell)))
  stop_left (stop.Read (of_read.Bad refusal)) tell ok calm is = absurd (end_left (of_read.Bad refusal) (read_answer files name) ok (ap lines_of (is.1 tell)))
  stop_left (stop.Read of_read.Fault) tell ok calm is = absurd (calm is)
  stop_left (stop.Read of_read.NoMemory) tell ok calm is = refl
  stop_left (stop.Frame end) tell ok calm is = absurd is
  stop_left (stop.NoSuchFrame frame frames) tell ok calm is = absurd is
  stop_left stop.NoMemory tell ok calm is = refl

  pub outcome_left :
      {T : Type 0} (result : Status) (outcome : Result T Stopped) → tells → IsOk (read_answer files name) → ¬ HasRisen (faults before) (faults now) → ¬ Rose →
      Answers result (status_of outcome) → (result ≡ SinkFault → Rose) → IfErr outcome Stops → (result ≡ Done) ⊎ (result ≡ NoMemory)
  outcome_left result (Ok x) tell ok calm quiet (inl is) risen stops = inl is
  outcome_left result (Ok x) tell ok calm quiet (inr (inl is)) risen stops = absurd (quiet (risen is))
  outcome_left result (Ok x) tell ok calm quiet (inr (inr is)) risen stops = inr is
  outcome_left result (Err stopped) tell ok calm quiet (inl is) risen stops = inr (is ∙ stop_left stopped tell ok calm stops)
  outcome_left result (Err stopped) tell ok calm quiet (inr (inl is)) risen stops = absurd (quiet (risen is))
  outcome_left result (Err stopped) tell ok calm quiet (inr (inr is)) risen stops = inr is
