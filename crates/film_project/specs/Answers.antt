-- What a reader answers: the value where nothing is wrong, and else the first refusal.
use Rattle.std.specs.Prelude.{◌≡◌, ◌≢◌, ℕ, List, Option, Some, None, Result, Ok, Err}
use Rattle.std.specs.Borrow.{Bor}
use Rattle.serde_json.specs.Data.{Data}
use Rattle.serde_json.specs.Find.{get}
use Rattle.serde_json.specs.View.{view}
use Rattle.serde_json.specs.declared.value.Value.{Value}
use Rattle.film_project.specs.Members.{as_whole}
use Rattle.film_project.specs.Names.{member_name}
use Rattle.film_project.specs.declared.place.Place.{Place}
use Rattle.film_project.specs.declared.refusal.ProjectRefusal.{ProjectRefusal}
use Rattle.film_project.specs.declared.refusal.ProjectRefusal.TheVariants.{NoMemory, MissingMember, WrongKind}

-- Want of memory may take the place of any refusal.
abbrev pub Answers : {T : Type 0} → Result T ProjectRefusal → Option ProjectRefusal → T → Type 0
Answers (Ok x) fault value = (fault ≡ None) × (x ≡ value)
Answers (Err e) fault value = e ≢ NoMemory → fault ≡ Some e

-- the same of a value that clauses see as `seen` of it
abbrev pub AnswersAs : {T U : Type 0} → (T → U) → Result T ProjectRefusal → Option ProjectRefusal → U → Type 0
AnswersAs seen (Ok x) fault value = (fault ≡ None) × (seen x ≡ value)
AnswersAs seen (Err e) fault value = e ≢ NoMemory → fault ≡ Some e

-- the same of a check, which has no value
abbrev pub Refuses : {T : Type 0} → Result T ProjectRefusal → Option ProjectRefusal → Type 0
Refuses (Ok x) fault = fault ≡ None
Refuses (Err e) fault = e ≢ NoMemory → fault ≡ Some e

-- the member, which has to be there
abbrev pub FindsMember : Result (Bor Value) ProjectRefusal → Place → List ℕ → Data → Type 0
FindsMember (Ok v) place name d = get name d ≡ Some (view v.now)
FindsMember (Err e) place name d = e ≢ NoMemory → (get name d ≡ None) × (e ≡ MissingMember (member_name place name))

-- the whole number that a member's value is
abbrev pub AsksWhole : Result ℕ ProjectRefusal → Place → List ℕ → Data → Type 0
AsksWhole (Ok n) place name d = as_whole d ≡ Some n
AsksWhole (Err e) place name d = e ≢ NoMemory → (as_whole d ≡ None) × (e ≡ WrongKind (member_name place name))

-- the answer of the definition, unless memory ran out
abbrev pub IsAnswer : {T : Type 0} → Result T ProjectRefusal → Result T ProjectRefusal → Type 0
IsAnswer (Ok x) wanted = Ok x ≡ wanted
IsAnswer (Err e) wanted = e ≢ NoMemory → Err e ≡ wanted
