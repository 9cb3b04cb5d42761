use Rattle.std.proofs.Common.{◌≡◌, refl, ◌∙◌, ap, ◌+◌, ◌-◌, ◌*◌, min, length}
use Rattle.codec_terms.specs.TagTree.{Node, no_node}
use Rattle.tag_tree.specs.Children.{least_child, wide}
use Rattle.tag_tree.proofs.grid.Grid+Node.least_child.Goals as goal

pub returns : goal.returns
unfolding least_child
returns c =
    let grid = c.args.self.now in
    let right : c.min-right.result ≡ min (2 * c.args.x + 1) (wide grid - 1) = c.min-right.ensures ∙ ap (λ n. min (2 * c.args.x + 1) (n - 1)) c.columns-columns.ensures in
    let bottom : c.min-bottom.result ≡ min (2 * c.args.y + 1) (length grid - 1) = c.min-bottom.ensures ∙ ap (λ n. min (2 * c.args.y + 1) (n - 1)) c.rows-rows.ensures in
    let one = c.value.ensures ∙ ap (λ (n : Node). n.value) (c.get.ensures no_node) in
    let two = c.value-2.ensures ∙ ap (λ (n : Node). n.value) (c.get-2.ensures no_node) in
    let three = c.value-3.ensures ∙ ap (λ (n : Node). n.value) (c.get-3.ensures no_node) in
    let four = c.value-4.ensures ∙ ap (λ (n : Node). n.value) (c.get-4.ensures no_node) in
    rw (c.min.ensures, c.min-upper.ensures, c.min-lower.ensures, one, two, three, four, right, bottom) refl
