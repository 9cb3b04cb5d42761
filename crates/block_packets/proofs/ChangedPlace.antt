-- The place that changes from a cut to the next one, by the rank of the sub-band.
use Rattle.std.proofs.Common.{◌≡◌, ◌≢◌, ℕ, zero, suc, ◌+◌, ◌-◌, ◌*◌, ◌/◌, ◌%◌, ◌<◌, ◌≤◌, refl, ap, ap₂, inl, inr, arith, Bool, false}
use Rattle.std.specs.Prelude.{nat_lt, ◌==◌, ◌&&◌}
use Rattle.std.proofs.lemmas.Bool.{cond_both, ltb-true, ltb-false}
use Rattle.std.proofs.lemmas.Bool.Decides.{eqb_tells}
use Rattle.codec_terms.specs.declared.picture.Band.{Band}
use Rattle.codec_terms.specs.declared.picture.BandKind.TheVariants.{LL}
use Rattle.codec_terms.specs.Bands.{band_of}
use Rattle.codec_terms.specs.Precincts.{resolution, resolution_of_kind}
use Rattle.cut_laws.specs.Ranks.{high_kind, band_changed, is_changed}
use Rattle.block_packets.specs.Changes.{place_changed}

high-resolution : (k l : ℕ) → resolution_of_kind (high_kind k) l ≡ 6 - l
high-resolution zero l = refl
high-resolution (suc zero) l = refl
high-resolution (suc (suc k)) l = refl

pub changed-high : (cut rank : ℕ) → rank ≡ cut % 48 → rank < 45 → 6 * ((rank + 1) % 3) + (5 - rank / 9) ≡ place_changed cut
unfolding place_changed
changed-high cut rank is below =
    let n : ℕ = cut % 48 in
    cond_both (nat_lt n 45) (band_of ((n + 1) % 3) (n / 9 + 1) (high_kind (n % 9 / 3))) (band_of ((n + 1) % 3) 5 LL)
    (λ (b : Band). 6 * ((rank + 1) % 3) + (5 - rank / 9) ≡ 6 * b.component + resolution b)
    (λ e. omega (arith, high-resolution (n % 9 / 3) (n / 9 + 1)))
    (λ e. absurd (omega (arith, ltb-false n 45 e)))

pub changed-low : (cut rank : ℕ) → rank ≡ cut % 48 → 45 ≤ rank → 6 * ((rank + 1) % 3) + 0 ≡ place_changed cut
unfolding place_changed
changed-low cut rank is above =
    let n : ℕ = cut % 48 in
    cond_both (nat_lt n 45) (band_of ((n + 1) % 3) (n / 9 + 1) (high_kind (n % 9 / 3))) (band_of ((n + 1) % 3) 5 LL)
    (λ (b : Band). 6 * ((rank + 1) % 3) + 0 ≡ 6 * b.component + resolution b)
    (λ e. absurd (omega (arith, ltb-true n 45 e)))
    (λ e. omega arith)

-- ---- the other places

not_both : (a b c d : ℕ) → 6 * a + b ≢ 6 * c + d → (a == c && b == d) ≡ false
not_both a b c d other =
    elim (eqb_tells a c) [
      | inl (e, same) ↦ elim (eqb_tells b d) [
        | inl (g, alike) ↦ absurd (other (omega arith))
        | inr (g, apart) ↦ ap₂ (λ (s t : Bool). s && t) e g
      ]
      | inr (e, apart) ↦ ap (λ (s : Bool). s && (b == d)) e
    ]

-- the packets at another place stay as they are
pub changes-not : (cut component r : ℕ) → 6 * component + r ≢ place_changed cut → is_changed cut component r ≡ false
unfolding place_changed
changes-not cut component r other = not_both component r (band_changed cut).component (resolution (band_changed cut)) other
