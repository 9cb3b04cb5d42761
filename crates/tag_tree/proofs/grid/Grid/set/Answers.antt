use Rattle.std.proofs.Common.{◌≡◌, ◌+◌, ◌*◌, ap, ◌∙◌, set}
use Rattle.codec_terms.specs.Grid.{grid_of, with_grid_item}
use Rattle.tag_tree.proofs.Grids.{grid_of-set}
use Rattle.tag_tree.proofs.Parents.{inside-seen}
use Rattle.tag_tree.proofs.grid.Grid.set.Goals as goal

pub index_mut-requires : goal.index_mut-requires
index_mut-requires g c =
    let s = c.self.inside in
    let seen = inside-seen s.columns s.rows s.items.items c.args.self.now c.args.x c.args.y c.self.invariant c.self.view_is c.requires.inside in
    rw (c.place-place.ensures.place, seen.across, s.items.ok.0, c.self.invariant) seen.below

pub returns : goal.returns
returns g c =
    let s = c.self.inside in
    let seen = inside-seen s.columns s.rows s.items.items c.args.self.now c.args.x c.args.y c.self.invariant c.self.view_is c.requires.inside in
    let place : c.place-place.result ≡ c.args.y * s.columns + c.args.x = c.place-place.ensures.place ∙ ap (λ n. c.args.y * n + c.args.x) seen.across in
    ap (λ n. grid_of s.columns s.rows (set s.items.items n c.args.item)) place
    ∙ grid_of-set s.columns s.rows s.items.items c.args.x c.args.y c.args.item seen.placed
    ∙ ap (λ grid. with_grid_item grid c.args.x c.args.y c.args.item) c.self.view_is
