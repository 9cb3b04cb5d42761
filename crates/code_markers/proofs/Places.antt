-- Fields one behind another, and the places behind them.
use Rattle.std.proofs.Common.{◌≡◌, ℕ, ◌+◌, ◌<◌, ◌≤◌, refl, sym, ap, ◌∙◌, arith, add-one, Bool, true, false, List, [], ◌∷◌, ◌++◌, length, map, drop, get_or, Result, Ok, Err}
use Rattle.std.specs.Prelude.{if◌then◌else◌, nat_lt}
use Rattle.std.proofs.Math.Seq.{drop-cons}
use Rattle.std.proofs.lemmas.Bool.{lt-ltb, le-ltb, ltb-false}
use Rattle.codec_terms.specs.declared.reading.MarkerRefusal.{MarkerRefusal}
use Rattle.codec_terms.specs.declared.reading.MarkerRefusal.TheVariants.{Truncated, Marker, Field}
use Rattle.codec_terms.specs.Reading.{on_ok}
use Rattle.codec_terms.specs.MainReading.{FieldRule, number_at, fields_end, marker_at}
use Rattle.code_markers.specs.Fields.{sizes}

-- ---- the first field

pub fields_end-short : (bytes : List ℕ) (rule : FieldRule) (rules : List FieldRule) (at : ℕ) → length bytes < at + rule.size → fields_end bytes (rule ∷ rules) at ≡ Err (Truncated (length bytes))
unfolding fields_end
fields_end-short bytes rule rules at p = rw (lt-ltb (length bytes) (at + rule.size) p) refl

pub fields_end-refused : (bytes : List ℕ) (rule : FieldRule) (rules : List FieldRule) (at : ℕ) → at + rule.size ≤ length bytes → rule.accepts (number_at bytes at rule.size) ≡ false → fields_end bytes (rule ∷ rules) at ≡ Err (Field at (number_at bytes at rule.size))
unfolding fields_end
fields_end-refused bytes rule rules at p q = rw (le-ltb (length bytes) (at + rule.size) p, q) refl

pub fields_end-accepted : (bytes : List ℕ) (rule : FieldRule) (rules : List FieldRule) (at : ℕ) → at + rule.size ≤ length bytes → rule.accepts (number_at bytes at rule.size) ≡ true → fields_end bytes (rule ∷ rules) at ≡ fields_end bytes rules (at + rule.size)
unfolding fields_end
fields_end-accepted bytes rule rules at p q = rw (le-ltb (length bytes) (at + rule.size) p, q) refl

pub fields_end-none : (bytes : List ℕ) (at : ℕ) → fields_end bytes [] at ≡ Ok at
unfolding fields_end
fields_end-none bytes at = refl

-- those from a place in a list on
pub map-drop : {F : Type 0} (rule : F → FieldRule) (fields : List F) (i : ℕ) (d : F) → i < length fields → map rule (drop i fields) ≡ rule (get_or fields i d) ∷ map rule (drop (i + 1) fields)
map-drop rule fields i d p = rw (drop-cons fields i d p, add-one) refl

-- ---- rules one behind another

tests-on_ok : (short fine : Bool) (e e' : MarkerRefusal) (x y : Result ℕ MarkerRefusal) (f : ℕ → Result ℕ MarkerRefusal) → x ≡ on_ok y f
    → (if short then Err e else if fine then x else Err e') ≡ on_ok (if short then Err e else if fine then y else Err e') f
tests-on_ok true fine e e' x y f same = refl
tests-on_ok false true e e' x y f same = same
tests-on_ok false false e e' x y f same = refl

pub fields_end-append : (bytes : List ℕ) (rules more : List FieldRule) (at : ℕ) → fields_end bytes (rules ++ more) at ≡ on_ok (fields_end bytes rules at) (fields_end bytes more)
unfolding fields_end
fields_end-append bytes [] more at = refl
fields_end-append bytes (rule ∷ rules) more at =
    tests-on_ok (nat_lt (length bytes) (at + rule.size)) (rule.accepts (number_at bytes at rule.size)) (Truncated (length bytes)) (Field at (number_at bytes at rule.size))
    (fields_end bytes (rules ++ more) (at + rule.size)) (fields_end bytes rules (at + rule.size)) (fields_end bytes more) (fields_end-append bytes rules more (at + rule.size))

pub fields_end-on : (bytes : List ℕ) (rules more : List FieldRule) (at next : ℕ) → fields_end bytes rules at ≡ Ok next → fields_end bytes (rules ++ more) at ≡ fields_end bytes more next
fields_end-on bytes rules more at next h = fields_end-append bytes rules more at ∙ ap (λ r. on_ok r (fields_end bytes more)) h

pub fields_end-err : (bytes : List ℕ) (rules more : List FieldRule) (at : ℕ) (e : MarkerRefusal) → fields_end bytes rules at ≡ Err e → fields_end bytes (rules ++ more) at ≡ Err e
fields_end-err bytes rules more at e h = fields_end-append bytes rules more at ∙ ap (λ r. on_ok r (fields_end bytes more)) h

-- ---- markers

pub tests-ok : (short fine : Bool) (e e' : MarkerRefusal) (x : Result ℕ MarkerRefusal) (next : ℕ) → (if short then Err e else if fine then x else Err e') ≡ Ok next → (short ≡ false) × ((fine ≡ true) × (x ≡ Ok next))
tests-ok true fine e e' x next h = cc
tests-ok false true e e' x next h = (refl, (refl, h))
tests-ok false false e e' x next h = cc

pub marker_at-there : (bytes : List ℕ) (allowed : ℕ → Bool) (at marker : ℕ) → marker_at bytes allowed at ≡ Ok marker → at + 2 ≤ length bytes
marker_at-there bytes allowed at marker h =
    let tests = tests-ok (nat_lt (length bytes) (at + 2)) (allowed (number_at bytes at 2)) (Truncated (length bytes)) (Marker at (number_at bytes at 2)) (Ok (number_at bytes at 2)) marker h in
    ltb-false (length bytes) (at + 2) tests.0

-- ---- fields that are there and accepted

pub record First (bytes : List ℕ) (rule : FieldRule) (rules : List FieldRule) (at next : ℕ) : Type 0 where
  pub there : at + rule.size ≤ length bytes
  pub accepted : rule.accepts (number_at bytes at rule.size) ≡ true
  pub later : fields_end bytes rules (at + rule.size) ≡ Ok next

pub fields_end-first : (bytes : List ℕ) (rule : FieldRule) (rules : List FieldRule) (at next : ℕ) → fields_end bytes (rule ∷ rules) at ≡ Ok next → First bytes rule rules at next
unfolding fields_end
fields_end-first bytes rule rules at next h =
    let tests = tests-ok (nat_lt (length bytes) (at + rule.size)) (rule.accepts (number_at bytes at rule.size)) (Truncated (length bytes)) (Field at (number_at bytes at rule.size))
    (fields_end bytes rules (at + rule.size)) next h in
    record { there = ltb-false (length bytes) (at + rule.size) tests.0; accepted = tests.1.0; later = tests.1.1 }

pub record Behind (bytes : List ℕ) (rules : List FieldRule) (at next : ℕ) : Type 0 where
  pub place : next ≡ at + sizes rules
  pub within : next ≤ length bytes

pub fields_end-behind : (bytes : List ℕ) (rules : List FieldRule) (at next : ℕ) → at ≤ length bytes → fields_end bytes rules at ≡ Ok next → Behind bytes rules at next
fields_end-behind bytes [] at next p h =
    let same : at ≡ next = let e : Ok at ≡ Ok next = sym (fields_end-none bytes at) ∙ h in cc in
    record { place = omega arith; within = omega arith }
fields_end-behind bytes (rule ∷ rules) at next p h =
    let first = fields_end-first bytes rule rules at next h in
    let later = fields_end-behind bytes rules (at + rule.size) next first.there first.later in
    record { place = omega (arith, later.place); within = later.within }
