use Rattle.std.proofs.Common.{◌≡◌, ◌-◌, ◌<◌, ◌∙◌, arith}
use Rattle.codec_terms.specs.Bands.{lowest_plane}
use Rattle.block_packets.proofs.Included.{absent-block, included-block, word-of}
use Rattle.block_packets.proofs.block.packet_block.Goals as goal

pub returns-then-planes-lowest : goal.returns-then-planes-lowest
returns-then-planes-lowest c = λ b h.
    absent-block c.args.band (lowest_plane c.args.cut c.args.band) b _ (omega (arith, h.of.planes, c.plane_count-planes.ensures, c.lowest_plane-lowest.ensures, c.if-planes-lowest.true)) c.new.ensures

pub returns : goal.returns
returns c = λ b h.
    let planes = c.plane_count-planes.result in
    let lowest = c.lowest_plane-lowest.result in
    let same : planes ≡ _ = c.plane_count-planes.ensures ∙ h.of.planes in
    let p : lowest ≡ lowest_plane c.args.cut c.args.band = c.lowest_plane-lowest.ensures in
    let some : lowest < planes = omega arith in
    included-block c.args.band (lowest_plane c.args.cut c.args.band) b _ _ _ (omega arith)
    (omega (arith, c.saturating_sub.ensures, c.plane_limit.ensures)) (omega (arith, c.pass_count.ensures))
    (c.in_ok-codeword.ensures b h.of ∙ word-of b c.args.block.now.planes lowest (planes - lowest) (lowest_plane c.args.cut c.args.band) h.of.planes p (omega (arith, c.plane_count-planes.ensures)) (omega (arith, c.plane_count-planes.ensures)))
