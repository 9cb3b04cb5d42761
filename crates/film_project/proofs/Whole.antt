-- From the parts of the definition to the whole.
use Rattle.std.proofs.Common.{◌≡◌, ℕ, ◌≤◌, List, length, Bool, true, false, nat_lt, if◌then◌else◌, Option, Some, None, Result, Ok, Err, refl, sym, ap, ◌∙◌, arith}
use Rattle.std.specs.Str.{is_utf8, IsUtf8}
use Rattle.std.proofs.lemmas.Bool.Decides.{nat_tests}
use Rattle.std.proofs.lemmas.Str.{is_utf8-from_IsUtf8, IsUtf8-from_is_utf8}
use Rattle.serde_json.specs.Data.{Data}
use Rattle.serde_json.specs.Read.{read}
use Rattle.film_project.specs.Accepts.{accepts, accepts_value, json_value, project_fault, project_in, project_or}
use Rattle.film_project.specs.Answers.{Answers, IsAnswer}
use Rattle.film_project.specs.Facts.{ProjectFacts}
use Rattle.film_project.specs.declared.refusal.ProjectRefusal.{ProjectRefusal}
use Rattle.film_project.specs.declared.refusal.ProjectRefusal.TheVariants.{NotJson}

not_long : (n : ℕ) → n ≤ 8388608 → nat_lt 8388608 n ≡ false
not_long n h = grind (arith, nat_tests)

read_whole : (text : List ℕ) (d : Data) → is_utf8 text ≡ true → read text ≡ Some d → json_value text ≡ Some d
read_whole text d utf8 e = rw (utf8, e)

-- a text that is no longer than allowed and that `serde_json` reads
pub accepts-read : (text : List ℕ) (d : Data) → length text ≤ 8388608 → IsUtf8 text → read text ≡ Some d
    → accepts text ≡ project_or (project_fault d) (project_in d)
accepts-read text d short utf8 e = rw (not_long (length text) short) (ap accepts_value (read_whole text d (is_utf8-from_IsUtf8 text utf8) e))

unread : (b : Bool) (r : Option Data) → (b ≡ true → r ≡ None) → accepts_value (if b then r else None) ≡ Err NotJson
unread true r e = rw (e refl)
unread false r e = refl

-- one that it refuses
pub accepts-refused : (text : List ℕ) → length text ≤ 8388608 → (IsUtf8 text → read text ≡ None) → accepts text ≡ Err NotJson
accepts-refused text short e = rw (not_long (length text) short) (unread (is_utf8 text) (read text) (λ u. e (IsUtf8-from_is_utf8 text u)))

pub IsAnswer-parts : (r : Result ProjectFacts ProjectRefusal) (fault : Option ProjectRefusal) (value : ProjectFacts) (wanted : Result ProjectFacts ProjectRefusal)
    → Answers r fault value → wanted ≡ project_or fault value → IsAnswer r wanted
IsAnswer-parts (Ok x) fault value wanted a e = ap Ok a.1 ∙ (sym (ap (λ f. project_or f value) a.0) ∙ sym e)
IsAnswer-parts (Err refusal) fault value wanted a e = λ h. sym (ap (λ f. project_or f value) (a h)) ∙ sym e
