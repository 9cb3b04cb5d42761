use Rattle.std.proofs.Common.{◌∙◌, sym, ap, length}
use Rattle.tag_tree.proofs.Parents.{IsSized-grid_of}
use Rattle.tag_tree.proofs.grid.Grid.rows.Goals as goal

pub returns : goal.returns
returns g c =
    let s = c.self.inside in
    sym (IsSized-grid_of s.columns s.rows s.items.items c.self.invariant).size ∙ ap length c.self.view_is
