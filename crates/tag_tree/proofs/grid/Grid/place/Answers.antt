use Rattle.std.proofs.Common.{◌+◌, ◌*◌, ◌<◌, refl, arith, rules}
use Rattle.std.specs.Prelude.{◌^◌}
use Rattle.tag_tree.proofs.Parents.{inside-seen}
use Rattle.tag_tree.proofs.grid.Grid.place.Goals as goal

pub overflow_mul-result : goal.overflow_mul-result
overflow_mul-result g c =
    let s = c.self.inside in
    let seen = inside-seen s.columns s.rows s.items.items c.args.self.now c.args.x c.args.y c.self.invariant c.self.view_is c.requires.inside in
    let fits : c.args.y * s.columns < 2 ^ 64 = omega (arith, seen.below, c.self.invariant, s.items.ok.0, s.items.ok.1, s.items.small) in
    search rules

pub overflow_add-result : goal.overflow_add-result
overflow_add-result g c =
    let s = c.self.inside in
    let seen = inside-seen s.columns s.rows s.items.items c.args.self.now c.args.x c.args.y c.self.invariant c.self.view_is c.requires.inside in
    let fits : c.args.y * s.columns + c.args.x < 2 ^ 64 = omega (arith, seen.below, c.self.invariant, s.items.ok.0, s.items.ok.1, s.items.small) in
    search rules

pub returns-clause-place : goal.returns-clause-place
returns-clause-place g c =
    let s = c.self.inside in
    let seen = inside-seen s.columns s.rows s.items.items c.args.self.now c.args.x c.args.y c.self.invariant c.self.view_is c.requires.inside in
    rw seen.across refl

pub returns-clause-below : goal.returns-clause-below
returns-clause-below g c =
    let s = c.self.inside in
    let seen = inside-seen s.columns s.rows s.items.items c.args.self.now c.args.x c.args.y c.self.invariant c.self.view_is c.requires.inside in
    rw (seen.across, seen.down) seen.below
