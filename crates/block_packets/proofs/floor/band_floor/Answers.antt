use Rattle.std.proofs.Common.{◌≡◌, ◌*◌, ◌<◌, ◌∙◌, List, ap, sym, arith, length, sum_by}
use Rattle.std.proofs.lemmas.List.{take_all}
use Rattle.codec_terms.specs.declared.picture.Shape.{Shape}
use Rattle.codec_terms.specs.declared.packet.PacketBlock.{PacketBlock}
use Rattle.codec_terms.specs.Codestream.{packet_band}
use Rattle.codec_terms.specs.Precincts.{blocks_in}
use Rattle.band_map.specs.Blocks.{area_of}
use Rattle.floor_laws.specs.Floors.{codeword_floor}
use Rattle.block_packets.proofs.Bands.{count-blocks, nth-block}
use Rattle.block_packets.proofs.LeastSums.{block-floor-more}
use Rattle.block_packets.proofs.floor.band_floor.Goals as goal

pub loop-at-preserved : goal.loop-at-preserved
loop-at-preserved c = record {
  all = λ q coded.
      let l = c.loop-at in
      let shape = c.args.blocks.now.shape in
      let area = area_of c.area_in-area.result in
      let blocks = (packet_band shape q c.args.cut c.args.number c.args.band).blocks in
      let same : area ≡ blocks_in shape c.args.band c.args.number = c.area_in-area.ensures.area ∙ ap (λ (s : Shape). blocks_in s c.args.band c.args.number) c.shape.ensures.shape in
      let below : l.at < area.rows * area.columns = omega (arith, c.loop-at-test.true, c.block_count-at-end.ensures.count) in
      let inside : l.at < length blocks = omega (arith, count-blocks shape q c.args.cut c.args.number c.args.band area same) in
      let here = c.codeword_floor-floor.ensures.floor _ (c.block_in.ensures q c.args.cut coded) in
      block-floor-more blocks l.at l.floor c.codeword_floor-floor.result inside (l.invariant.all q coded)
      (here ∙ ap codeword_floor (sym (nth-block shape q c.args.cut c.args.number c.args.band area l.at same below)));
  few = omega (arith, c.loop-at.invariant.few, c.codeword_floor-floor.ensures.few);
}

pub returns-clause-floor : goal.returns-clause-floor
returns-clause-floor c = λ q coded.
    let l = c.loop-at in
    let shape = c.args.blocks.now.shape in
    let area = area_of c.area_in-area.result in
    let blocks = (packet_band shape q c.args.cut c.args.number c.args.band).blocks in
    let same : area ≡ blocks_in shape c.args.band c.args.number = c.area_in-area.ensures.area ∙ ap (λ (s : Shape). blocks_in s c.args.band c.args.number) c.shape.ensures.shape in
    l.invariant.all q coded
    ∙ ap (λ (blocks : List PacketBlock). sum_by codeword_floor blocks)
    (take_all l.at blocks (omega (arith, c.loop-at-test.false, c.block_count-at-end.ensures.count, count-blocks shape q c.args.cut c.args.number c.args.band area same)))
