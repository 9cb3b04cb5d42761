-- Up to the next change of the clips seen so far, each frame has the last clip of the first frame.
use Rattle.std.proofs.Common.{arith}
use Rattle.film_timeline.proofs.Covering.{none_covers, steady_more}
use Rattle.film_timeline.proofs.change.next_change.Goals as goal

pub loop-clip-init : goal.loop-clip-init
loop-clip-init c = (c.requires, omega arith, λ g _ _. none_covers c.args.f g)

pub loop-clip-preserved : goal.loop-clip-preserved
loop-clip-preserved c = (
  c.sooner-until.ensures.later,
  omega (arith, c.sooner-until.ensures.no_later, c.loop-clip.invariant.1),
  λ g from below. steady_more c.args.clips.now c.loop-clip.clip-index c.clip-item.result c.args.f g
      (omega arith) c.clip-item.is (c.sooner-until.ensures.steady g from below)
      (c.loop-clip.invariant.2 g from (omega (arith, below, c.sooner-until.ensures.no_later))),
)
