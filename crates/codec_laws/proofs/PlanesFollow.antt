-- Each bit-plane leaves the significant samples that the next one begins with.
use Rattle.std.proofs.Common.{◌≡◌, ℕ, ◌*◌, ◌^◌, ◌<◌, suc, length, All, sym, ◌∙◌, arith, false}
use Rattle.std.specs.Prelude.{unsigned_abs}
use Rattle.std.proofs.lemmas.List.{ext_get_or, get_or-replicate, length-map, length-replicate}
use Rattle.codec_terms.specs.BlockDecisions.{Block, is_significant_above, no_samples, plane_count, plane_start}
use Rattle.codec_laws.proofs.HighestPlane.{start-empty}
use Rattle.codec_laws.proofs.PlaneLaws.{PlanesFollow}
use Rattle.codec_laws.proofs.Significance.{significant-plane, significant-first_plane}

start-no_samples : (b : Block) (p : ℕ) → All (λ v. unsigned_abs v < 2 ^ 64) b.values → plane_count b ≡ suc p → (plane_start b p).significant ≡ no_samples b
start-no_samples b p small highest =
    ext_get_or false (plane_start b p).significant (no_samples b)
    (length-map b.values (is_significant_above p) ∙ sym (length-replicate (length b.values) false))
    (λ i inside. start-empty b p small (omega (arith, highest)) i
    ∙ sym (get_or-replicate (length b.values) i false false (omega (arith, inside, length-map b.values (is_significant_above p)))))

pub planes-follow : (b : Block) → length b.values ≡ b.width * b.height → All (λ v. unsigned_abs v < 2 ^ 64) b.values → PlanesFollow b
planes-follow b whole small = record {
  first = λ p highest. start-no_samples b p small highest;
  second = λ p highest. significant-first_plane b (suc p) whole;
  further = λ p. significant-plane b (suc p) whole;
}
