-- The shapes of a precinct's sub-bands.
use Rattle.std.proofs.Common.{◌≡◌, ◌∙◌, ℕ, suc, ◌-◌, ◌*◌, ◌≤◌, refl, ap, arith, [], ◌∷◌, map}
use Rattle.std.proofs.Math.Nat.{mul-le-mul, min-le_left}
use Rattle.codec_terms.specs.declared.picture.Shape.{Shape}
use Rattle.codec_terms.specs.declared.picture.Band.{Band}
use Rattle.codec_terms.specs.declared.picture.BandKind.TheVariants.{LL, HL, LH, HH}
use Rattle.codec_terms.specs.declared.reading.MainHead.{MainHead}
use Rattle.codec_terms.specs.Bands.{resolution_bands}
use Rattle.codec_terms.specs.Precincts.{blocks_in}
use Rattle.codec_terms.specs.StreamReading.{band_shape}
use Rattle.packet_places.specs.declared.precinct.PrecinctAt.{PrecinctAt}
use Rattle.part_packets.specs.Shapes.{shapes_at}

pub least_shapes : (head : MainHead) (p : PrecinctAt) → p.resolution ≡ 0 → shapes_at head p ≡ band_shape head p.number (record { component = p.component; level = 5; kind = LL }) ∷ []
unfolding resolution_bands
least_shapes head p least = rw least refl

pub greater_shapes : (head : MainHead) (p : PrecinctAt) (level : ℕ) → 1 ≤ p.resolution → level ≡ 6 - p.resolution
    → shapes_at head p ≡ band_shape head p.number (record { component = p.component; level = level; kind = HL }) ∷ band_shape head p.number (record { component = p.component; level = level; kind = LH })
    ∷ band_shape head p.number (record { component = p.component; level = level; kind = HH }) ∷ []
unfolding resolution_bands
greater_shapes head p level greater h =
    let one : p.resolution ≡ suc (p.resolution - 1) = omega arith in
    let same : 5 - (p.resolution - 1) ≡ level = omega arith in
    ap (λ r. map (band_shape head p.number) (resolution_bands p.component r)) one ∙ rw same refl

pub few-blocks : (shape : Shape) (band : Band) (number columns rows : ℕ) → columns ≡ (blocks_in shape band number).columns → rows ≡ (blocks_in shape band number).rows → columns * rows ≤ 16
few-blocks shape band number columns rows h k =
    mul-le-mul {n₂ = 4} {m₂ = 4} (rw h (min-le_left 4 _)) (rw k (min-le_left 4 _))
