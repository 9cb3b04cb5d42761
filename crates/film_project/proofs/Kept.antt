-- What it means that a text keeps its rule.
use Rattle.std.proofs.Common.{◌≡◌, ℕ, zero, suc, ◌+◌, ◌<◌, ◌≤◌, List, length, Bool, true, false, cond, Option, Some, None, is_none, refl, sym, ◌∙◌, arith, add-zero, true≢false, subst, nat_lt}
use Rattle.std.specs.Option.{option_or}
use Rattle.std.proofs.lemmas.Bool.Decides.{nat_tests}
use Rattle.film_project.specs.Texts.{first_place, keeps, offends, short_place, least_length, meaning_place}
use Rattle.film_project.specs.declared.text_rule.TextRule.{TextRule}

no_place : (b : Bool) (i : ℕ) (r : Option ℕ) → cond b (Some i) r ≡ None → (b ≡ false) × (r ≡ None)
no_place true i r e = absurd (cc)
no_place false i r e = (refl, e)

-- where no place passes the test, none of them does
pub first_place-none : (test : ℕ → Bool) (i n k : ℕ) → first_place test i n ≡ None → k < n → test (i + k) ≡ false
first_place-none test i zero k e h = absurd (omega arith)
first_place-none test i (suc n) zero e h = rw (add-zero i) (no_place (test i) i (first_place test (i + 1) n) e).0
first_place-none test i (suc n) (suc k) e h =
    let same : i + 1 + k ≡ i + suc k = omega arith in
    subst (λ j. test j ≡ false) same (first_place-none test (i + 1) n k (no_place (test i) i (first_place test (i + 1) n) e).1 (omega arith))

-- and the other way round
pub none-first_place : (test : ℕ → Bool) (i n : ℕ) → ((k : ℕ) → k < n → test (i + k) ≡ false) → first_place test i n ≡ None
none-first_place test i zero f = refl
none-first_place test i (suc n) f =
    let here : test i ≡ false = subst (λ j. test j ≡ false) (add-zero i) (f 0 (omega arith)) in
    rw here (none-first_place test (i + 1) n (λ k h. let same : i + suc k ≡ i + 1 + k = omega arith in subst (λ j. test j ≡ false) same (f (suc k) (omega arith))))

last_none : (c : Option ℕ) → is_none c ≡ true → c ≡ None
last_none None e = refl
last_none (Some c) e = absurd (cc)

three_none : (a b c : Option ℕ) → is_none (option_or a (option_or b c)) ≡ true → (a ≡ None) × (b ≡ None) × (c ≡ None)
three_none None None c e = (refl, refl, last_none c e)
three_none None (Some b) c e = absurd (cc)
three_none (Some a) b c e = absurd (cc)

less_than : (n least : ℕ) → nat_lt n least ≡ false → least ≤ n
less_than n least e = grind (arith, nat_tests)

long_enough : (n least : ℕ) → cond (nat_lt n least) (Some n) None ≡ None → least ≤ n
long_enough n least e = less_than n least (no_place (nat_lt n least) n None e).0

pub record IsKept (rule : TextRule) (s : List ℕ) : Type 0 where
  pub bytes : (k : ℕ) → k < length s → offends rule s k ≡ false
  pub least : least_length rule ≤ length s
  pub meaning : meaning_place rule s ≡ None

pub kept_parts : (rule : TextRule) (s : List ℕ) → keeps rule s ≡ true → IsKept rule s
kept_parts rule s e =
    let p = three_none (first_place (offends rule s) 0 (length s)) (short_place rule s) (meaning_place rule s) e in
    record {
      bytes = λ k h. let same : 0 + k ≡ k = omega arith in subst (λ j. offends rule s j ≡ false) same (first_place-none (offends rule s) 0 (length s) k p.0 h);
      least = long_enough (length s) (least_length rule) p.1;
      meaning = p.2;
    }

not_above : (m n : ℕ) → (m < n → ⊥) → n ≤ m
not_above m n above = omega (arith, above)

-- no byte stands at or behind a place that always offends
pub short_of : (rule : TextRule) (s : List ℕ) (most : ℕ) → offends rule s most ≡ true → IsKept rule s → length s ≤ most
short_of rule s most e kept = not_above most (length s) (λ h. true≢false (sym e ∙ kept.bytes most h))
