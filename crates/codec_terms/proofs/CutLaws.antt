-- The cut is the least that is within the limits.
use Rattle.std.proofs.Common.{◌≡◌, ◌≢◌, ℕ, ◌+◌, ◌<◌, ◌≤◌, refl, sym, ap, cond, Some, arith, zero, suc, Bool, true, false, ◌∙◌, List}
use Rattle.std.specs.Prelude.{IsTrue, ◌&&◌, find, unwrap_or, ℤ}
use Rattle.std.specs.List.{range_with_len}
use Rattle.std.proofs.lemmas.Bool.{leb-true, le-leb}
use Rattle.codec_terms.specs.declared.picture.Shape.{Shape}
use Rattle.mast_base.specs.declared.limits.Limits.{Limits}
use Rattle.codec_terms.specs.Cut.{IsWithin, is_within, IsLeastCut, least_cut}

-- r is the first number from a on at which the test holds
record IsFirst (test : ℕ → Bool) (a r : ℕ) : Type 0 where
  holds : IsTrue (test r)
  first : (m : ℕ) → a ≤ m → m < r → IsTrue (test m) → ⊥

none : (t : Bool) → t ≡ false → t ≡ true → ⊥
none t e f = let h : false ≡ true = sym e ∙ f in cc

both : {a b : Bool} → a ≡ true → b ≡ true → (a && b) ≡ true
both p q = rw (p, q) refl

and-true : (a b : Bool) → (a && b) ≡ true → (a ≡ true) × (b ≡ true)
and-true true b h = (refl, h)
and-true false b h = absurd (none false refl h)

first_at : (test : ℕ → Bool) (n a d : ℕ) (t : Bool) → test a ≡ t
    → (test a ≡ false → IsFirst test (a + 1) (unwrap_or (find test (range_with_len (a + 1) n)) d))
    → IsFirst test a (unwrap_or (cond t (Some a) (find test (range_with_len (a + 1) n))) d)
first_at test n a d true e later = record { holds = e; first = λ m low below h. absurd (omega arith) }
first_at test n a d false e later =
    let rest = later e in
    record {
      holds = rest.holds;
      first = λ m low below h. let other : m ≢ a = λ q. none (test a) e (ap test (sym q) ∙ h) in rest.first m (omega arith) below h;
    }

first_found : (test : ℕ → Bool) (n a c d : ℕ) → a ≤ c → c < a + n → IsTrue (test c) → IsFirst test a (unwrap_or (find test (range_with_len a n)) d)
first_found test zero a c d low high holds = absurd (omega arith)
first_found test (suc n) a c d low high holds =
    first_at test n a d (test a) refl
    (λ e. let other : c ≢ a = λ q. none (test a) e (ap test (sym q) ∙ holds) in first_found test n (a + 1) c d (omega arith) (omega arith) holds)

-- the test is the fact
within_of_test : (limits : Limits) (shape : Shape) (q : List ℤ) (cut : ℕ) → IsTrue (is_within limits shape q cut) → IsWithin limits shape q cut
within_of_test limits shape q cut h =
    let parts = and-true _ _ h in
    let more = and-true _ _ parts.1 in
    let last = and-true _ _ more.1 in
    record { whole = leb-true _ _ parts.0; first = leb-true _ _ more.0; second = leb-true _ _ last.0; third = leb-true _ _ last.1 }

test_of_within : (limits : Limits) (shape : Shape) (q : List ℤ) (cut : ℕ) → IsWithin limits shape q cut → IsTrue (is_within limits shape q cut)
test_of_within limits shape q cut w = both (le-leb _ _ w.whole) (both (le-leb _ _ w.first) (both (le-leb _ _ w.second) (le-leb _ _ w.third)))

pub least_cut-is : (limits : Limits) (shape : Shape) (q : List ℤ) (cut : ℕ) → cut ≤ 720 → IsWithin limits shape q cut → IsLeastCut limits shape q (least_cut limits shape q)
unfolding least_cut
least_cut-is limits shape q cut small within =
    let found = first_found (is_within limits shape q) 721 0 cut 720 (omega arith) (omega arith) (test_of_within limits shape q cut within) in
    record {
      within = within_of_test limits shape q _ found.holds;
      least = λ lower below w. found.first lower (omega arith) below (test_of_within limits shape q lower w);
    }
