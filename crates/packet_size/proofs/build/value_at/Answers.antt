use Rattle.std.proofs.Common.{◌∙◌, ◌+◌, ◌*◌, ap, arith}
use Rattle.codec_terms.specs.TagTree.{Node, no_node}
use Rattle.tag_tree.proofs.Grids.{IsPlaced, grid_item-at, place-below}
use Rattle.packet_size.proofs.Paths.{item-any}
use Rattle.packet_size.proofs.build.value_at.Goals as goal

pub returns : goal.returns
returns c =
    let a = c.args in
    let placed : IsPlaced a.columns a.rows a.at.x a.at.y = record { column = c.requires.column; row = c.requires.row } in
    let inside = place-below a.columns a.rows a.at.x a.at.y placed in
    c.value.ensures
    ∙ ap (λ (n : Node). n.value)
    (c.index-nodes-at.is
    ∙ item-any a.nodes.now (a.at.y * a.columns + a.at.x) c.index-nodes-at.result no_node (omega (arith, inside, c.requires.nodes))
    ∙ grid_item-at a.columns a.rows a.nodes.now a.at.x a.at.y no_node placed)
