use Rattle.std.proofs.Common.{◌≡◌, ◌∙◌, ap, subst, sym, arith}
use Rattle.codec_terms.specs.declared.picture.Shape.{Shape}
use Rattle.codec_terms.specs.Codestream.{packet_band}
use Rattle.codec_terms.specs.Precincts.{blocks_in}
use Rattle.band_map.specs.Blocks.{area_of}
use Rattle.block_packets.specs.Sized.{AreSizesUpTo}
use Rattle.block_packets.proofs.Bands.{count-blocks, columns-of, rows-of, taken-sizes}
use Rattle.block_packets.proofs.sizes.band_sizes.Goals as goal

pub returns-clause-sizes : goal.returns-clause-sizes
returns-clause-sizes c = λ q coded.
    let shape = c.args.blocks.now.shape in
    let band = c.args.band in
    let number = c.args.number in
    let area = area_of c.area_in-area.result in
    let blocks = (packet_band shape q c.args.cut number band).blocks in
    let count = c.block_count-count.ensures.count in
    let same : area ≡ blocks_in shape band number = c.area_in-area.ensures.area ∙ ap (λ (s : Shape). blocks_in s band number) c.shape.ensures.shape in
    record {
      columns = columns-of shape q c.args.cut number band area same;
      rows = rows-of shape q c.args.cut number band area same;
      blocks = taken-sizes c.block_count-count.result c.block_sizes.result blocks (omega (arith, c.block_count-count.ensures.few))
          (count-blocks shape q c.args.cut number band area same ∙ sym count)
          (subst (λ n. AreSizesUpTo n c.block_sizes.result blocks) (sym count) (c.block_sizes.ensures.sizes q coded));
    }
