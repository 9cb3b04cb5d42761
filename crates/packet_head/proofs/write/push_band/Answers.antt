use Rattle.std.proofs.Common.{◌≡◌, ◌∙◌, ◌++◌, ◌+◌, sym, ap, ap₂, drop, map}
use Rattle.codec_terms.specs.TagTree.{Tree, new_tree}
use Rattle.codec_terms.specs.PacketHeader.{blocks_bits, first_layer, missing_planes}
use Rattle.packet_head.specs.Writing.{block_bits}
use Rattle.packet_head.proofs.BlockBits.{one-block-more, all-blocks}
use Rattle.packet_head.proofs.write.push_band.Goals as goal

pub loop-at-preserved : goal.loop-at-preserved
loop-at-preserved c =
    let l = c.loop-at in
    let e = c.in_ok-push_block.ensures in
    let blocks = c.as_slice-blocks.result.now in
    record {
      sent = ap (λ out. out ++ blocks_bits c.push_block.new.layers c.push_block.new.planes (l.at + 1) (drop (l.at + 1) blocks)) e.bits
          ∙ ap₂ (λ (layers planes : Tree). (l.out ++ block_bits l.layers l.planes l.at c.index-blocks-at.result) ++ blocks_bits layers planes (l.at + 1) (drop (l.at + 1) blocks)) e.layers e.planes
          ∙ one-block-more l.layers l.planes l.at blocks c.index-blocks-at.result l.out _ c.loop-at-test.true (sym c.index-blocks-at.is) l.invariant.sent;
      layers = c.push_block.ensures.layers_size ∙ l.invariant.layers;
      planes = c.push_block.ensures.planes_size ∙ l.invariant.planes;
    }

pub returns : goal.returns
returns c =
    let l = c.loop-at in
    let b = c.args.band.now in
    let blocks = c.as_slice-blocks.result.now in
    let same = c.as_slice-blocks.ensures in
    let layers : c.in_ok-layers-2.layers ≡ new_tree b.columns b.rows (map first_layer b.blocks) =
    c.in_ok-layers-2.ensures.tree ∙ ap (new_tree b.columns b.rows) (c.deref.ensures.value ∙ c.in_ok-layers.ensures ∙ ap (map first_layer) same) in
    let planes : c.in_ok-planes-2.planes ≡ new_tree b.columns b.rows (map missing_planes b.blocks) =
    c.in_ok-planes-2.ensures.tree ∙ ap (new_tree b.columns b.rows) (c.deref-2.ensures.value ∙ c.in_ok-planes.ensures ∙ ap (map missing_planes) same) in
    all-blocks l.layers l.planes l.at blocks l.out _ c.loop-at-test.false l.invariant.sent
    ∙ ap (λ bits. c.args.out.now ++ bits)
    (ap₂ (λ (layers planes : Tree). blocks_bits layers planes 0 blocks) layers planes ∙ ap (blocks_bits (new_tree b.columns b.rows (map first_layer b.blocks)) (new_tree b.columns b.rows (map missing_planes b.blocks)) 0) same)
