use Rattle.std.proofs.Common.{◌≡◌, ◌∙◌, ◌+◌, ◌-◌, ◌*◌, ap, ap₂, sym, arith, min, length}
use Rattle.codec_terms.specs.Grid.{grid_of}
use Rattle.codec_terms.specs.TagTree.{new_node}
use Rattle.tag_tree.specs.Children.{least_child, wide, value_at}
use Rattle.tag_tree.proofs.Parents.{wide-sized}
use Rattle.packet_size.proofs.Building.{IsSized-front}
use Rattle.packet_size.proofs.build.least_of.Goals as goal

pub returns : goal.returns
unfolding least_child
returns c =
    let a = c.args in
    let grid = grid_of a.columns a.rows a.nodes.now in
    let s = IsSized-front a.columns a.rows a.nodes.now c.requires.nodes in
    let right : min (2 * a.at.x + 1) (wide grid - 1) ≡ c.min-right.result =
    ap (λ n. min (2 * a.at.x + 1) (n - 1)) (wide-sized a.columns a.rows grid s (omega (arith, c.requires.row))) ∙ sym c.min-right.ensures in
    let bottom : min (2 * a.at.y + 1) (length grid - 1) ≡ c.min-bottom.result = ap (λ n. min (2 * a.at.y + 1) (n - 1)) s.size ∙ sym c.min-bottom.ensures in
    c.new.ensures
    ∙ ap new_node
    (c.min.ensures
    ∙ ap₂ min (c.min-upper.ensures ∙ ap₂ min c.value_at.ensures c.value_at-2.ensures) (c.min-lower.ensures ∙ ap₂ min c.value_at-3.ensures c.value_at-4.ensures)
    ∙ sym (ap₂ (λ r b. min (min (value_at grid (2 * a.at.x) (2 * a.at.y)) (value_at grid r (2 * a.at.y))) (min (value_at grid (2 * a.at.x) b) (value_at grid r b))) right bottom))
