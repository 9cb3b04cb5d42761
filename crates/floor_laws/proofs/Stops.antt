-- Where a floor is above its limit, no lower cut is within the limits.
use Rattle.std.proofs.Common.{◌≡◌, ℕ, zero, suc, ◌<◌, ◌≤◌, inl, inr, arith, Bool, true, List, ℤ}
use Rattle.std.specs.Prelude.{◌↔◌, IsTrue, ◌||◌, nat_lt}
use Rattle.std.proofs.lemmas.Bool.{lt-ltb, ltb-true, or_cases, or_left, or_right}
use Rattle.mast_base.specs.declared.limits.Limits.{Limits}
use Rattle.codec_terms.specs.declared.picture.Shape.{Shape}
use Rattle.codec_terms.specs.Cut.{IsWithin}
use Rattle.floor_laws.specs.Floors.{part_floor, stream_floor, IsOver, is_over}
use Rattle.floor_laws.proofs.LeastLengths.{part-floor, stream-floor}

-- ---- the test

abbrev whole_test : Limits → Shape → List ℤ → ℕ → Bool
whole_test limits shape q cut = nat_lt limits.frame (stream_floor shape q cut)

abbrev part_test : Limits → Shape → List ℤ → ℕ → ℕ → Bool
part_test limits shape q cut component = nat_lt limits.component (part_floor shape q cut component)

over_of_test : (limits : Limits) (shape : Shape) (q : List ℤ) (cut : ℕ) → IsTrue (is_over limits shape q cut) → IsOver limits shape q cut
over_of_test limits shape q cut h = elim (or_cases _ _ h) [
  | inl whole ↦ inl (ltb-true _ _ whole)
  | inr parts ↦ elim (or_cases _ _ parts) [
    | inl first ↦ inr (0, omega arith, ltb-true _ _ first)
    | inr more ↦ elim (or_cases _ _ more) [
      | inl second ↦ inr (1, omega arith, ltb-true _ _ second)
      | inr third ↦ inr (2, omega arith, ltb-true _ _ third)
    ]
  ]
]

-- one of three
any-part : (test : ℕ → Bool) (component : ℕ) → component < 3 → test component ≡ true → (test 0 || (test 1 || test 2)) ≡ true
any-part test zero inside h = or_left (test 0) (test 1 || test 2) h
any-part test (suc zero) inside h = or_right (test 0) (test 1 || test 2) (or_left (test 1) (test 2) h)
any-part test (suc (suc zero)) inside h = or_right (test 0) (test 1 || test 2) (or_right (test 1) (test 2) h)
any-part test (suc (suc (suc component))) inside h = absurd (omega arith)

test_of_over : (limits : Limits) (shape : Shape) (q : List ℤ) (cut : ℕ) → IsOver limits shape q cut → IsTrue (is_over limits shape q cut)
test_of_over limits shape q cut h =
    let part : ℕ → Bool = part_test limits shape q cut in
    let parts : Bool = part 0 || (part 1 || part 2) in
    elim h [
      | inl whole ↦ or_left (whole_test limits shape q cut) parts (lt-ltb _ _ whole)
      | inr above ↦ or_right (whole_test limits shape q cut) parts (any-part part above.0 above.1 (lt-ltb _ _ above.2))
    ]

pub over-tested : (limits : Limits) (shape : Shape) (q : List ℤ) (cut : ℕ) → IsTrue (is_over limits shape q cut) ↔ IsOver limits shape q cut
over-tested limits shape q cut = (over_of_test limits shape q cut, test_of_over limits shape q cut)

-- ---- lower cuts

part_within : (limits : Limits) (shape : Shape) (q : List ℤ) (cut low component : ℕ) → component < 3 → low ≤ cut → IsWithin limits shape q low
    → part_floor shape q cut component ≤ limits.component
part_within limits shape q cut low zero inside h within = omega (arith, part-floor shape q cut low 0 h, within.first)
part_within limits shape q cut low (suc zero) inside h within = omega (arith, part-floor shape q cut low 1 h, within.second)
part_within limits shape q cut low (suc (suc zero)) inside h within = omega (arith, part-floor shape q cut low 2 h, within.third)
part_within limits shape q cut low (suc (suc (suc component))) inside h within = absurd (omega arith)

pub none-within : (limits : Limits) (shape : Shape) (q : List ℤ) (cut low : ℕ) → IsOver limits shape q cut → low ≤ cut → ¬ IsWithin limits shape q low
none-within limits shape q cut low over h within = elim over [
  | inl whole ↦ omega (arith, whole, stream-floor shape q cut low h, within.whole)
  | inr part ↦ omega (arith, part.2, part_within limits shape q cut low part.0 part.1 h within)
]
