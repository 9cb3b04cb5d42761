-- A clip that covers the frame begins there or before, so that the frame's index is in its range.
use Rattle.std.proofs.Common.{◌≡◌, ◌-◌, ap, arith}
use Rattle.std.proofs.Math.Nat.{div-le_self}
use Rattle.film_timeline.proofs.Covering.{within}
use Rattle.film_timeline.proofs.clip.cell_of.Goals as goal

pub overflow_sub-result : goal.overflow_sub-result
overflow_sub-result c =
    let at : c.clip.inside.at ≡ c.in-Some.clip.now.at = ap (λ clip. clip.at) c.clip.view_is in
    omega (arith, at, (within c.in-Some.clip.now c.args.f (c.requires c.in-Some.clip c.in-Some.is)).0)

pub overflow_add-result : goal.overflow_add-result
overflow_add-result c =
    let at : c.clip.inside.at ≡ c.in-Some.clip.now.at = ap (λ clip. clip.at) c.clip.view_is in
    let count : c.clip.inside.count ≡ c.in-Some.clip.now.count = ap (λ clip. clip.count) c.clip.view_is in
    let inside = within c.in-Some.clip.now c.args.f (c.requires c.in-Some.clip c.in-Some.is) in
    let less = div-le_self (c.args.f - c.clip.inside.at) c.clip.inside.hold in
    omega (arith, at, count, less, inside.0, inside.1, c.clip.invariant.from_in_range, c.clip.invariant.most_count)
