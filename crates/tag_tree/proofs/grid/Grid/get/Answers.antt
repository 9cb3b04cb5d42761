use Rattle.std.proofs.Common.{◌≡◌, ◌+◌, ◌*◌, ap, ◌∙◌}
use Rattle.std.proofs.lemmas.List.{get_or_read_under}
use Rattle.codec_terms.specs.Grid.{grid_item}
use Rattle.tag_tree.proofs.Grids.{grid_item-at}
use Rattle.tag_tree.proofs.Parents.{inside-seen}
use Rattle.tag_tree.proofs.grid.Grid.get.Goals as goal

pub index-requires : goal.index-requires
index-requires g c =
    let s = c.self.inside in
    let seen = inside-seen s.columns s.rows s.items.items c.args.self.now c.args.x c.args.y c.self.invariant c.self.view_is c.requires.inside in
    rw (c.place.ensures.place, seen.across, s.items.ok.0, c.self.invariant) seen.below

pub returns : goal.returns
returns g c = λ outside.
    let s = c.self.inside in
    let seen = inside-seen s.columns s.rows s.items.items c.args.self.now c.args.x c.args.y c.self.invariant c.self.view_is c.requires.inside in
    let place : c.place.result ≡ c.args.y * s.columns + c.args.x = c.place.ensures.place ∙ ap (λ n. c.args.y * n + c.args.x) seen.across in
    let len : s.items.len ≡ s.rows * s.columns = s.items.ok.0 ∙ c.self.invariant in
    get_or_read_under s.items.items (c.args.y * s.columns + c.args.x) s.items.len c.index.result.now outside (rw place at c.index.ensures) (rw len seen.below) s.items.ok.0
    ∙ grid_item-at s.columns s.rows s.items.items c.args.x c.args.y outside seen.placed
    ∙ ap (λ grid. grid_item outside grid c.args.x c.args.y) c.self.view_is
