use Rattle.std.proofs.Common.{◌≡◌, ◌-◌, ◌<◌, ◌∙◌, ap, arith, refl, length}
use Rattle.codec_terms.specs.Bands.{lowest_plane}
use Rattle.block_packets.proofs.Included.{absent-is, included-is, word-of}
use Rattle.block_packets.proofs.block.block_size.Goals as goal

pub returns-then-planes-lowest-clause-size : goal.returns-then-planes-lowest-clause-size
returns-then-planes-lowest-clause-size c = λ b h.
    absent-is c.args.band (lowest_plane c.args.cut c.args.band) b (omega (arith, h.of.planes, c.plane_count-planes.ensures, c.lowest_plane-lowest.ensures, c.if-planes-lowest.true))

pub returns-clause-size : goal.returns-clause-size
returns-clause-size c = λ b h.
    let planes = c.plane_count-planes.result in
    let lowest = c.lowest_plane-lowest.result in
    let same : planes ≡ _ = c.plane_count-planes.ensures ∙ h.of.planes in
    let p : lowest ≡ lowest_plane c.args.cut c.args.band = c.lowest_plane-lowest.ensures in
    let some : lowest < planes = omega arith in
    included-is c.args.band (lowest_plane c.args.cut c.args.band) b _ (omega arith) refl
    (omega (arith, c.saturating_sub.ensures, c.plane_limit.ensures)) (omega (arith, c.pass_count.ensures))
    (c.length.ensures b h.of ∙ ap (λ w. length w) (word-of b c.args.block.now.planes lowest (planes - lowest) (lowest_plane c.args.cut c.args.band) h.of.planes p (omega (arith, c.plane_count-planes.ensures)) (omega (arith, c.plane_count-planes.ensures))))
