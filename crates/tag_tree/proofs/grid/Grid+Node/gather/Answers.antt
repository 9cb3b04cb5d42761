use Rattle.std.proofs.Common.{◌∙◌, ◌+◌, ◌*◌, ◌/◌, ◌%◌, ◌<◌, sym, ap₂, arith}
use Rattle.std.proofs.lemmas.Nat.{div-mul-add, mod-mul-add, mod_below, div_below}
use Rattle.codec_terms.specs.Grid.{grid_of, grid_item}
use Rattle.codec_terms.specs.TagTree.{new_node, no_node}
use Rattle.tag_tree.specs.Children.{least_child}
use Rattle.tag_tree.specs.Sizes.{IsSized}
use Rattle.tag_tree.proofs.Grids.{grid_item-at, place-below, IsPlaced}
use Rattle.tag_tree.proofs.Parents.{IsSized-grid_of, half-sizes}
use Rattle.tag_tree.proofs.grid.Grid+Node.gather.Goals as goal

pub least_child-least-requires : goal.least_child-least-requires
least_child-least-requires c =
    let s = c.self.inside in
    let l = c.loop-at in
    let h = half-sizes s.columns s.rows s.items.items c.args.self.now c.args.below.now c.self.invariant c.self.view_is c.requires in
    let inside : l.at < s.rows * s.columns = omega (arith, c.loop-at-test.true, c.len-at-end.ensures, s.items.ok.0, c.self.invariant) in
    let column : l.at % s.columns < s.columns = mod_below l.at s.columns h.some in
    let row : l.at / s.columns < s.rows = div_below l.at s.columns s.rows h.some inside in
    rw l.invariant.columns
    (record { sized = c.requires.sized; column = omega (arith, column, h.columns_half); row = omega (arith, row, h.rows_half) })

pub returns-clause-sized : goal.returns-clause-sized
returns-clause-sized c =
    let s = c.self.inside in
    let l = c.loop-at in
    let h = half-sizes s.columns s.rows s.items.items c.args.self.now c.args.below.now c.self.invariant c.self.view_is c.requires in
    let sized : IsSized s.columns s.rows (grid_of s.columns s.rows l.self-inside.items.items) = IsSized-grid_of s.columns s.rows l.self-inside.items.items l.invariant.whole in
    rw (l.invariant.columns, l.invariant.rows, ← h.across, ← h.down) sized

pub returns-clause-items : goal.returns-clause-items
returns-clause-items c = λ x y wide_here high.
    let s = c.self.inside in
    let l = c.loop-at in
    let h = half-sizes s.columns s.rows s.items.items c.args.self.now c.args.below.now c.self.invariant c.self.view_is c.requires in
    let column : x < s.columns = omega (arith, wide_here, h.across) in
    let placed : IsPlaced s.columns s.rows x y = record { column = column; row = omega (arith, high, h.down) } in
    let below = place-below s.columns s.rows x y placed in
    let inside : y * s.columns + x < l.at = omega (arith, below, c.loop-at-test.false, c.len-at-end.ensures, s.items.ok.0, c.self.invariant) in
    ap₂ (λ m n. grid_item no_node (grid_of m n l.self-inside.items.items) x y) l.invariant.columns l.invariant.rows
    ∙ sym (grid_item-at s.columns s.rows l.self-inside.items.items x y no_node placed)
    ∙ l.invariant.done (y * s.columns + x) inside
    ∙ ap₂ (λ u v. new_node (least_child c.args.below.now u v)) (mod-mul-add y s.columns x column) (div-mul-add y s.columns x column)
