use Rattle.std.proofs.Common.{◌*◌, ◌<◌, ◌≤◌, ◌∙◌, subst, sym, arith, length, length-set}
use Rattle.std.proofs.lemmas.List.Elements.{All-set}
use Rattle.codec_terms.specs.Codestream.{packet_band}
use Rattle.packet_size.specs.Sizes.{HasPassCode, IsSizeOf}
use Rattle.packet_size.specs.declared.sizes.BlockSize.{BlockSize}
use Rattle.block_packets.specs.Coded.{most_bytes}
use Rattle.block_packets.proofs.Bands.{one-size-more, nth-block}
use Rattle.band_map.specs.Blocks.{area_of}
use Rattle.block_packets.proofs.sizes.block_sizes.Goals as goal

pub loop-at-preserved : goal.loop-at-preserved
loop-at-preserved c =
    let l = c.loop-at in
    let shape = c.args.blocks.now.shape in
    let area = c.args.area in
    let below : l.at < area.rows * area.columns = omega (arith, c.loop-at-test.true, c.block_count-at-end.ensures.count) in
    let inside : l.at < length l.sizes = omega (arith, l.invariant.size, c.loop-at-test.true, c.block_count-at-end.ensures.few) in
    record {
      sizes = λ q coded.
          one-size-more l.sizes (packet_band shape q c.args.cut c.args.number c.args.band).blocks l.at c.block_size.result inside (l.invariant.sizes q coded)
          (subst (IsSizeOf c.block_size.result) (sym (nth-block shape q c.args.cut c.args.number c.args.band (area_of area) l.at c.requires.area below))
          (c.block_size.ensures.size _ (c.block_in.ensures q c.args.cut coded)));
      passes = All-set HasPassCode l.sizes l.at c.block_size.result c.block_size.ensures.passes l.invariant.passes;
      few = All-set (λ (size : BlockSize). size.len ≤ most_bytes) l.sizes l.at c.block_size.result c.block_size.ensures.few l.invariant.few;
      size = length-set l.sizes l.at c.block_size.result ∙ l.invariant.size;
    }
