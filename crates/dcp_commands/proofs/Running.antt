-- What a command's own answer says of `run`.
use Rattle.std.proofs.Common.{◌≡◌, ℕ, List, Some, None, Ok, Err, refl, inl, inr, ap, sym, subst, ◌∙◌}
use Rattle.std.specs.Prelude.{◌⊎◌, IsOk, IsSome, Option, Result}
use Rattle.film_project.specs.Facts.{ProjectFacts}
use Rattle.mast_world.specs.Content.{Files}
use Rattle.dcp_commands.specs.Frame.{IsFrameText, frame_answer}
use Rattle.dcp_commands.specs.Frame.{IsCause as IsFrameCause}
use Rattle.dcp_commands.specs.Plan.{IsPlanText, checked_plan, status_in}
use Rattle.dcp_commands.specs.Plan.{IsCause as IsPlanCause}
use Rattle.dcp_commands.specs.Read.{IsReadText, lines_of, read_answer}
use Rattle.dcp_commands.specs.Read.{IsCause as IsReadCause}
use Rattle.dcp_commands.specs.Run.{IsCause, IsRunText, plan_answer, run_answer, with_file, with_frame}
use Rattle.dcp_commands.specs.Status.{Answers}
use Rattle.dcp_commands.specs.Words.{FrameWords, frame_words, read_words}
use Rattle.dcp_commands.specs.declared.status.Status.{Status}
use Rattle.dcp_commands.specs.declared.status.Status.TheVariants.{Done, Usage, ProjectRefused, InputMissing, InputShort, SourceFault, StoreFault, SinkFault, NoMemory, BadFrame, NoSuchFrame, BadStream, InputTooLong}

-- ---- what the words and the files lead to

pub reads : (files : Files) (words : List (List ℕ)) (name : List ℕ) → read_words words ≡ Some name → run_answer files words ≡ read_answer files name
reads files words name is = ap (with_file files words) is

-- words that are no `read`
others : (files : Files) (words : List (List ℕ)) → read_words words ≡ None → run_answer files words ≡ with_frame files words (frame_words words)
others files words unread = ap (with_file files words) unread

pub frames : (files : Files) (words : List (List ℕ)) (asked : FrameWords) → read_words words ≡ None → frame_words words ≡ Some asked → run_answer files words ≡ frame_answer files asked.project asked.number
frames files words asked unread is = others files words unread ∙ ap (with_frame files words) is

pub plans : (files : Files) (words : List (List ℕ)) → read_words words ≡ None → frame_words words ≡ None → run_answer files words ≡ plan_answer (checked_plan files words)
plans files words unread unframed = others files words unread ∙ ap (with_frame files words) unframed

plan_status_same : (r : Result ProjectFacts Status) → status_in r ≡ status_in (plan_answer r)
plan_status_same (Ok project) = refl
plan_status_same (Err status) = refl

plan_ok : (r : Result ProjectFacts Status) → IsOk (plan_answer r) → IsOk r
plan_ok (Ok project) is = is
plan_ok (Err status) is = is

-- a source's fault, or what is printed of a status
abbrev Told : Status → Status → Type 0
Told result status = (result ≡ SourceFault) ⊎ Answers result status

-- of a command whose own answer is that of `run`
pub told_same : (result : Status) (whole own : Result (List ℕ) Status) → whole ≡ own → Told result (status_in own) → Told result (status_in whole)
told_same result whole own same told = subst (λ r. Told result (status_in r)) (sym same) told

pub told_plan :
    (files : Files) (words : List (List ℕ)) → read_words words ≡ None → frame_words words ≡ None → (result : Status) →
    Told result (status_in (checked_plan files words)) → Told result (status_in (run_answer files words))
told_plan files words unread unframed result told =
    told_same result (run_answer files words) (plan_answer (checked_plan files words)) (plans files words unread unframed)
    (subst (Told result) (plan_status_same (checked_plan files words)) told)

pub ok_same : (whole own : Result (List ℕ) Status) → whole ≡ own → IsOk whole → IsOk own
ok_same whole own same ok = subst (λ r. IsOk r) same ok

pub ok_plan : (files : Files) (words : List (List ℕ)) → read_words words ≡ None → frame_words words ≡ None → IsOk (run_answer files words) → IsOk (checked_plan files words)
ok_plan files words unread unframed ok =
    plan_ok (checked_plan files words) (ok_same (run_answer files words) (plan_answer (checked_plan files words)) (plans files words unread unframed) ok)

some_is : {T : Type 0} (o : Option T) (x : T) → o ≡ Some x → IsSome o
some_is o x is = subst (λ o. IsSome o) (sym is) refl

-- ---- texts

pub read_lines : (tells : Type 0) (files : Files) (words : List (List ℕ)) (name : List ℕ) → read_words words ≡ Some name → (text : List ℕ) → IsReadText tells files name text → IsRunText tells files words text
read_lines tells files words name is text it = record {
  of = inr (inl (it.it, it.of_bytes, it.is));
  told = λ tell. reads files words name is ∙ ap lines_of (it.told tell) ∙ ap Ok (sym it.is);
}

pub frame_bytes :
    (tells : Type 0) (files : Files) (words : List (List ℕ)) (asked : FrameWords) → read_words words ≡ None → frame_words words ≡ Some asked → (text : List ℕ) →
    IsFrameText tells files asked.project asked.number text → IsRunText tells files words text
frame_bytes tells files words asked unread is text it = record {
  of = inr (inr (record { project = it.project; rules = it.rules; value = it.value }));
  told = λ tell. frames files words asked unread is ∙ it.told tell;
}

pub plan_lines : (tells : Type 0) (files : Files) (words : List (List ℕ)) → read_words words ≡ None → frame_words words ≡ None → (text : List ℕ) → IsPlanText tells files words text → IsRunText tells files words text
plan_lines tells files words unread unframed text it = record {
  of = inl (it.project, it.is);
  told = λ tell. plans files words unread unframed ∙ ap plan_answer (it.told tell) ∙ ap Ok (sym it.is);
}

-- ---- causes

module _ {A C : Type 0} (tells : Type 0) (files : Files) (words : List (List ℕ)) (absent faults : A → ℕ) (before now : A) (sink_faults : C → ℕ) (out out_now : C) where
  abbrev Causes : Status → Type 0
  Causes = IsCause tells files words absent faults before now sink_faults out out_now

  pub read_causes :
      (name : List ℕ) → read_words words ≡ Some name → (status : Status) →
      IsReadCause tells files name absent faults before now sink_faults out out_now status → Causes status
  read_causes name asked Done is = is
  read_causes name asked (InputMissing n) is =
      (is.0, inl (asked ∙ ap Some (sym is.1)), λ tell. reads files words name asked ∙ is.2 tell)
  read_causes name asked SourceFault is = is
  read_causes name asked SinkFault is = is
  read_causes name asked NoMemory is = tt
  read_causes name asked (BadStream refusal) is = (some_is (read_words words) name asked, is.0, λ tell. reads files words name asked ∙ is.1 tell)
  read_causes name asked (InputTooLong size) is = (some_is (read_words words) name asked, is.0, λ tell. reads files words name asked ∙ is.1 tell)
  read_causes name asked Usage is = absurd is
  read_causes name asked (ProjectRefused refusal) is = absurd is
  read_causes name asked (InputShort asset size need) is = absurd is
  read_causes name asked StoreFault is = absurd is
  read_causes name asked (BadFrame frame why) is = absurd is
  read_causes name asked (NoSuchFrame frame frames) is = absurd is

  frame_ends :
      (asked : FrameWords) → read_words words ≡ None → frame_words words ≡ Some asked → (status : Status) →
      (tells → frame_answer files asked.project asked.number ≡ Err status) → tells → run_answer files words ≡ Err status
  frame_ends asked unread is status told tell = frames files words asked unread is ∙ told tell

  pub frame_causes :
      (asked : FrameWords) → read_words words ≡ None → frame_words words ≡ Some asked → (status : Status) →
      IsFrameCause tells files asked.project asked.number absent faults before now sink_faults out out_now status → Causes status
  frame_causes asked unread named Done is = is
  frame_causes asked unread named (ProjectRefused refusal) is = frame_ends asked unread named (ProjectRefused refusal) is
  frame_causes asked unread named (InputMissing n) is = (is.0, inr (inr (asked, named, is.1)), frame_ends asked unread named (InputMissing n) is.2)
  frame_causes asked unread named (InputShort asset size need) is = (is.0, frame_ends asked unread named (InputShort asset size need) is.1)
  frame_causes asked unread named SourceFault is = is
  frame_causes asked unread named SinkFault is = is
  frame_causes asked unread named NoMemory is = tt
  frame_causes asked unread named (BadFrame frame why) is = ((asked, named, is.0), is.1, frame_ends asked unread named (BadFrame frame why) is.2)
  frame_causes asked unread named (NoSuchFrame frame frames) is =
      ((asked, named, is.0), is.1, frame_ends asked unread named (NoSuchFrame frame frames) is.2)
  frame_causes asked unread named Usage is = absurd is
  frame_causes asked unread named StoreFault is = absurd is
  frame_causes asked unread named (BadStream refusal) is = absurd is
  frame_causes asked unread named (InputTooLong size) is = absurd is

  plan_ends : read_words words ≡ None → frame_words words ≡ None → (status : Status) → (tells → checked_plan files words ≡ Err status) → tells → run_answer files words ≡ Err status
  plan_ends unread unframed status told tell = plans files words unread unframed ∙ ap plan_answer (told tell)

  pub plan_causes :
      read_words words ≡ None → frame_words words ≡ None → (status : Status) →
      IsPlanCause tells files words absent faults before now sink_faults out out_now status → Causes status
  plan_causes unread unframed Done is = is
  plan_causes unread unframed Usage is = (is, unframed, unread)
  plan_causes unread unframed (ProjectRefused refusal) is = plan_ends unread unframed (ProjectRefused refusal) is
  plan_causes unread unframed (InputMissing name) is = (is.0, inr (inl is.1), plan_ends unread unframed (InputMissing name) is.2)
  plan_causes unread unframed (InputShort asset size need) is = (is.0, plan_ends unread unframed (InputShort asset size need) is.1)
  plan_causes unread unframed SourceFault is = is
  plan_causes unread unframed SinkFault is = is
  plan_causes unread unframed NoMemory is = tt
  plan_causes unread unframed (BadStream refusal) is = absurd is
  plan_causes unread unframed (InputTooLong size) is = absurd is
  plan_causes unread unframed StoreFault is = absurd is
  plan_causes unread unframed (BadFrame frame why) is = absurd is
  plan_causes unread unframed (NoSuchFrame frame frames) is = absurd is
