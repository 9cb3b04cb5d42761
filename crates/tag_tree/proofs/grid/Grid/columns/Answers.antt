use Rattle.std.proofs.Common.{◌∙◌, ◌<◌, sym, ap, subst, arith, length}
use Rattle.codec_terms.specs.Grid.{grid_of}
use Rattle.tag_tree.specs.Children.{wide}
use Rattle.tag_tree.proofs.Parents.{wide-sized, IsSized-grid_of}
use Rattle.tag_tree.proofs.grid.Grid.columns.Goals as goal

pub returns : goal.returns
returns g c =
    let s = c.self.inside in
    let sized = IsSized-grid_of s.columns s.rows s.items.items c.self.invariant in
    let some : 0 < length (grid_of s.columns s.rows s.items.items) = subst (λ grid. 0 < length grid) (sym c.self.view_is) c.requires in
    sym (wide-sized s.columns s.rows (grid_of s.columns s.rows s.items.items) sized (omega (arith, some, sized.size)))
    ∙ ap wide c.self.view_is
