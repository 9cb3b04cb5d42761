use Rattle.std.proofs.Common.{◌≡◌, ◌*◌, ◌<◌, ◌∙◌, ◌∷◌, ◌++◌, [], List, ap, ap₂, sym, arith, length}
use Rattle.std.proofs.lemmas.List.{take_more, take_all}
use Rattle.codec_terms.specs.declared.picture.Shape.{Shape}
use Rattle.codec_terms.specs.declared.packet.PacketBlock.{PacketBlock}
use Rattle.codec_terms.specs.Codestream.{not_included, packet_band}
use Rattle.codec_terms.specs.Precincts.{blocks_in}
use Rattle.band_map.specs.Blocks.{area_of}
use Rattle.block_packets.proofs.Bands.{count-blocks, nth-block, band-of}
use Rattle.block_packets.proofs.push.packet_band.Goals as goal

pub loop-at-preserved : goal.loop-at-preserved
loop-at-preserved c = λ q coded.
    let l = c.loop-at in
    let shape = c.args.blocks.now.shape in
    let area = area_of c.area_in-area.result in
    let blocks = (packet_band shape q c.args.cut c.args.number c.args.band).blocks in
    let same : area ≡ blocks_in shape c.args.band c.args.number = c.area_in-area.ensures.area ∙ ap (λ (s : Shape). blocks_in s c.args.band c.args.number) c.shape.ensures.shape in
    let below : l.at < area.rows * area.columns = omega (arith, c.loop-at-test.true, c.block_count-at-end.ensures.count) in
    let inside : l.at < length blocks = omega (arith, count-blocks shape q c.args.cut c.args.number c.args.band area same) in
    let item = c.in_ok-packet_block.ensures _ (c.block_in-block.ensures q c.args.cut coded) ∙ sym (nth-block shape q c.args.cut c.args.number c.args.band area l.at same below) in
    c.in_ok-push.ensures.ok
    ∙ ap₂ (λ (xs : List PacketBlock) (x : PacketBlock). xs ++ x ∷ []) (l.invariant q coded) item
    ∙ sym (take_more blocks l.at not_included inside)

pub returns : goal.returns
returns c = λ q coded.
    let l = c.loop-at in
    let shape = c.args.blocks.now.shape in
    let area = area_of c.area_in-area.result in
    let blocks = (packet_band shape q c.args.cut c.args.number c.args.band).blocks in
    let same : area ≡ blocks_in shape c.args.band c.args.number = c.area_in-area.ensures.area ∙ ap (λ (s : Shape). blocks_in s c.args.band c.args.number) c.shape.ensures.shape in
    band-of shape q c.args.cut c.args.number c.args.band area l.found same
    (l.invariant q coded ∙ take_all l.at blocks (omega (arith, c.loop-at-test.false, c.block_count-at-end.ensures.count, count-blocks shape q c.args.cut c.args.number c.args.band area same)))
