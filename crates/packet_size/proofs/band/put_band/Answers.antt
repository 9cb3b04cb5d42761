use Rattle.std.proofs.Common.{◌≡◌, ◌∙◌, ap, ap₂, map}
use Rattle.codec_terms.specs.TagTree.{Tree, new_tree}
use Rattle.codec_terms.specs.PacketHeader.{first_layer, missing_planes, blocks_bits}
use Rattle.packet_size.specs.Counting.{counted}
use Rattle.packet_size.specs.Sizes.{block_of}
use Rattle.packet_size.specs.Trees.{tree_of}
use Rattle.packet_size.proofs.BlocksTold.{band-none, map-twice}
use Rattle.packet_size.proofs.band.put_band.Goals as goal

pub returns-then-count-eq0-clause-bits : goal.returns-then-count-eq0-clause-bits
returns-then-count-eq0-clause-bits c = band-none c.args.counter.now _ _ c.args.band.now.blocks.now c.if-count-eq0.true

pub returns-clause-bits : goal.returns-clause-bits
returns-clause-bits c =
    let b = c.args.band.now in
    let blocks = b.blocks.now in
    let layers : tree_of c.new_tree-layers.result ≡ new_tree b.columns b.rows (map first_layer (map block_of blocks)) =
    c.new_tree-layers.ensures.tree ∙ ap (new_tree b.columns b.rows) (c.first_layers-layers.ensures ∙ map-twice block_of first_layer blocks) in
    let planes : tree_of c.new_tree-planes.result ≡ new_tree b.columns b.rows (map missing_planes (map block_of blocks)) =
    c.new_tree-planes.ensures.tree ∙ ap (new_tree b.columns b.rows) (c.zero_planes-planes.ensures ∙ map-twice block_of missing_planes blocks) in
    c.put_blocks.ensures.bits ∙ ap₂ (λ (layers planes : Tree). counted c.args.counter.now (blocks_bits layers planes 0 (map block_of blocks))) layers planes
