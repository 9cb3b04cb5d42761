-- The sub-bands of a resolution, spelled out.
use Rattle.std.proofs.Common.{◌≡◌, ℕ, zero, suc, ◌-◌, ◌<◌, ◌≤◌, refl, arith, [], ◌∷◌, length, Some}
use Rattle.std.specs.List.{slice_get}
use Rattle.codec_terms.specs.declared.picture.BandKind.TheVariants.{LL, HL, LH, HH}
use Rattle.codec_terms.specs.Bands.{resolution_bands}

pub least : (component r : ℕ) → r ≡ 0 → resolution_bands component r ≡ (record { component = component; level = 5; kind = LL }) ∷ []
unfolding resolution_bands
least component r h = rw h refl

pub greater : (component r level : ℕ) → 1 ≤ r → level ≡ 6 - r
    → resolution_bands component r ≡ (record { component = component; level = level; kind = HL }) ∷ (record { component = component; level = level; kind = LH })
    ∷ (record { component = component; level = level; kind = HH }) ∷ []
unfolding resolution_bands
greater component r level some h =
    let one : r ≡ suc (r - 1) = omega arith in
    let same : 5 - (r - 1) ≡ level = omega arith in
    rw one (rw same refl)

-- ---- one by one

pub least_at : (component r i : ℕ) → r ≡ 0 → i < length (resolution_bands component r)
    → slice_get (resolution_bands component r) i ≡ Some (record { component = component; level = 5; kind = LL })
unfolding resolution_bands
least_at component r zero h inside = rw h refl
least_at component r (suc i) h inside = let few : length (resolution_bands component r) ≡ 1 = rw h refl in absurd (omega (arith, few))

module _ (component r i level : ℕ) (some : 1 ≤ r) (h : level ≡ 6 - r) where
  pub first_at : i ≡ 0 → slice_get (resolution_bands component r) i ≡ Some (record { component = component; level = level; kind = HL })
  first_at is = rw is (rw (greater component r level some h) refl)

  pub second_at : i ≡ 1 → slice_get (resolution_bands component r) i ≡ Some (record { component = component; level = level; kind = LH })
  second_at is = rw is (rw (greater component r level some h) refl)

  pub third_at : i < length (resolution_bands component r) → 2 ≤ i
      → slice_get (resolution_bands component r) i ≡ Some (record { component = component; level = level; kind = HH })
  third_at inside past =
      let few : length (resolution_bands component r) ≡ 3 = rw (greater component r level some h) refl in
      let is : i ≡ 2 = omega (arith, inside, few, past) in
      rw is (rw (greater component r level some h) refl)
