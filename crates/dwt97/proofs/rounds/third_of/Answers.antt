use Rattle.std.proofs.Common.{arith}
use Rattle.dwt97.proofs.Sweep.{OnlyRow, Lifts, Made, third_done, third_past}
use Rattle.dwt97.proofs.rounds.third_of.Goals as goal

pub returns-then-y-height : goal.returns-then-y-height
unfolding OnlyRow Lifts Made
returns-then-y-height c = λ area made first second fourth each size far near low most enough so.
    third_done area c.args.columns c.args.height made c.args.y first second fourth c.args.plane.now _ c.requires.height each size c.if-y-height.true c.requires.odd far near low enough so
    c.lift_third.ensures.others c.lift_third.ensures.row

pub returns-else-y-height : goal.returns-else-y-height
returns-else-y-height c = λ area made first second fourth each size far near low most enough so. third_past area c.args.columns made first second c.args.y fourth _ (omega arith) so
