-- How planning ends, step by step.
use Rattle.std.proofs.Common.{◌≡◌, ℕ, zero, suc, ◌+◌, ◌-◌, ◌<◌, ◌≤◌, List, length, Some, None, Ok, Err, refl, inl, inr, ap, sym, subst, ◌∙◌, add-one, arith}
use Rattle.std.specs.Prelude.{Result, IfErr}
use Rattle.std.specs.Option.{option_or}
use Rattle.film_plan.specs.declared.refusal.PlanRefusal.{PlanRefusal}
use Rattle.film_plan.specs.declared.refusal.PlanRefusal.TheVariants as plan
use Rattle.film_plan.specs.Needs.{first_short}
use Rattle.film_project.specs.Accepts.{accepts}
use Rattle.film_project.specs.Facts.{ProjectFacts}
use Rattle.film_project.specs.Rules.{IsProject}
use Rattle.mast_world.specs.Content.{Files}
use Rattle.film_inputs.specs.Causes.{IsGoneAt, IsGoneInput, IsInputCause, IsInputName, IsPlanCause, IsPlanned, IsTextCause}
use Rattle.film_inputs.specs.Inputs.{missing_at, missing_before, missing_input, sizes_of}
use Rattle.film_inputs.specs.declared.ends.InputEnd.{InputEnd}
use Rattle.film_inputs.specs.declared.ends.InputEnd.TheVariants as input
use Rattle.film_inputs.specs.declared.ends.PlanEnd.{PlanEnd}
use Rattle.film_inputs.specs.declared.ends.PlanEnd.TheVariants.{Input, Plan, Project}

-- one asset more
pub missing_more : (files : Files) (project : ProjectFacts) (n : ℕ) → missing_before files project n ≡ None → missing_before files project (n + 1) ≡ missing_at files project n
missing_more files project n none =
    ap (missing_before files project) (add-one n) ∙ ap (λ o. option_or o (missing_at files project n)) none

-- the first one that isn't there stays the first one
pub missing_stays : (files : Files) (project : ProjectFacts) (name : List ℕ) (n k : ℕ) → missing_before files project n ≡ Some name → missing_before files project (n + k) ≡ Some name
missing_stays files project name n zero is = (let e : n + 0 ≡ n = omega arith in ap (missing_before files project) e ∙ is)
missing_stays files project name n (suc k) is =
    let e : n + suc k ≡ suc (n + k) = omega arith in
    ap (missing_before files project) e ∙ ap (λ o. option_or o (missing_at files project (n + k))) (missing_stays files project name n k is)

-- the first one that isn't there is that of the whole
pub missing_found : (files : Files) (project : ProjectFacts) (name : List ℕ) (place : ℕ) → place < length project.assets → missing_before files project place ≡ None → missing_at files project place ≡ Some name → missing_input files project ≡ Some name
missing_found files project name place below none is =
    let k = length project.assets - (place + 1) in
    let e : length project.assets ≡ place + 1 + k = omega (arith, below) in
    ap (missing_before files project) e ∙ missing_stays files project name (place + 1) k (missing_more files project place none ∙ is)

-- an input's cause says as much of an earlier state, and what is known of its name may be said otherwise
pub input_cause :
    {A : Type 0} (absent faults : A → ℕ) (before between now : A) (P Q : List ℕ → Type 0) (end : InputEnd) →
    absent before ≤ absent between → faults before ≤ faults between → ((name : List ℕ) → P name → Q name) →
    IsInputCause absent faults between now P end → IsInputCause absent faults before now Q end
input_cause absent faults before between now P Q (input.Missing name) fewer less more is = (more name is.0, omega (arith, is.1))
input_cause absent faults before between now P Q input.SourceFault fewer less more is = omega (arith, is)
input_cause absent faults before between now P Q input.NoMemory fewer less more is = tt

-- the first single file that isn't there
pub gone_input :
    (tells : Type 0) (files : Files) (project : ProjectFacts) (place : ℕ) (name : List ℕ) → place < length project.assets →
    (tells → missing_before files project place ≡ None) → IsGoneAt tells files project place name → IsGoneInput tells files project name
gone_input tells files project place name below none gone = record {
  file = (place, gone.file);
  told = λ told. missing_found files project name place below (none told) (gone.told told);
}

-- how the project's file ends planning
pub of_text :
    {A : Type 0} (tells : Type 0) (files : Files) (name : List ℕ) (absent faults : A → ℕ) (before now : A) (end : PlanEnd) →
    IsTextCause tells files name absent faults before now end → IsPlanCause tells files name absent faults before now end
of_text tells files name absent faults before now (Input end) is =
    input_cause absent faults before before now (λ n. (n ≡ name) × (tells → files n ≡ None))
    (λ n. IsInputName name n × IsPlanned tells files name (Input (input.Missing n))) end (omega arith) (omega arith)
    (λ n gone. (inl gone.0, λ told. rw gone.0 (rw (rw gone.0 at (gone.1 told)) refl))) is
of_text tells files name absent faults before now (Project refusal) is = λ _. is
of_text tells files name absent faults before now (Plan refusal) is = absurd is

-- how its inputs end it
pub of_input :
    {A : Type 0} (tells : Type 0) (files : Files) (name text : List ℕ) (project : ProjectFacts) (absent faults : A → ℕ) (before between now : A) (end : InputEnd) →
    absent before ≤ absent between → faults before ≤ faults between → IsProject project →
    (tells → files name ≡ Some text) → accepts text ≡ Ok project →
    IsInputCause absent faults between now (IsGoneInput tells files project) end → IsPlanCause tells files name absent faults before now (Input end)
of_input tells files name text project absent faults before between now end fewer less rules there accepted is =
    input_cause absent faults before between now (IsGoneInput tells files project)
    (λ n. IsInputName name n × IsPlanned tells files name (Input (input.Missing n))) end fewer less
    (λ n gone. (inr (project, rules, gone.file), λ told. rw (there told, accepted, gone.told told) refl)) is

-- how a short one ends it
pub of_short :
    {A : Type 0} (tells : Type 0) (files : Files) (name text : List ℕ) (project : ProjectFacts) (absent faults : A → ℕ) (before now : A) (refusal : PlanRefusal) →
    (tells → files name ≡ Some text) → accepts text ≡ Ok project → (tells → missing_input files project ≡ None) →
    ((asset : List ℕ) (size need : ℕ) → refusal ≡ plan.InputShort asset size need →
    (size < need) × (tells → first_short project (sizes_of files project) ≡ Some (record { asset = asset; size = size; need = need }))) →
    IsPlanCause tells files name absent faults before now (Plan refusal)
of_short tells files name text project absent faults before now (plan.InputShort asset size need) there accepted none short =
    let it = short asset size need refl in (it.0, λ told. rw (there told, accepted, none told, it.1 told) refl)
of_short tells files name text project absent faults before now plan.NoMemory there accepted none short = tt

-- what is known of the error that a call hands up
pub ended_by : {T E : Type 0} (r : Result T E) (made end : E) (P : E → Type 0) → r ≡ Err made → made ≡ end → P end → IfErr r P
ended_by r made end P is same holds = subst (λ r. IfErr r P) (sym (is ∙ ap Err same)) holds

-- what is known of an error, at the error
pub cause_of : {T E : Type 0} (r : Result T E) (end : E) (P : E → Type 0) → r ≡ Err end → IfErr r P → P end
cause_of r end P is holds = subst (λ r. IfErr r P) is holds
