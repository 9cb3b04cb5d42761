use Rattle.std.proofs.Common.{arith}
use Rattle.dwt97.proofs.Sweep.{OnlyRow, Lifts, Made, fourth_done, fourth_past}
use Rattle.dwt97.proofs.rounds.fourth_of.Goals as goal

pub returns-then-y-height : goal.returns-then-y-height
unfolding OnlyRow Lifts Made
returns-then-y-height c = λ area made first second third each size far near most enough so.
    fourth_done area c.args.columns c.args.height made c.args.y first second third c.args.plane.now _ c.requires.height each size c.if-y-height.true c.requires.even far near enough so
    c.lift_fourth.ensures.others c.lift_fourth.ensures.row

pub returns-else-y-height : goal.returns-else-y-height
returns-else-y-height c = λ area made first second third each size far near most enough so. fourth_past area c.args.columns made first second third c.args.y _ (omega arith) so
