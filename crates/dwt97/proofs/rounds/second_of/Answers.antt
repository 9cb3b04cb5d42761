use Rattle.std.proofs.Common.{arith}
use Rattle.dwt97.proofs.Sweep.{OnlyRow, Lifts, Made, second_done, second_past}
use Rattle.dwt97.proofs.rounds.second_of.Goals as goal

pub returns-then-y-height : goal.returns-then-y-height
unfolding OnlyRow Lifts Made
returns-then-y-height c = λ area made first third fourth each size far near low most enough so.
    second_done area c.args.columns c.args.height made c.args.y first third fourth c.args.plane.now _ c.requires.height each size c.if-y-height.true c.requires.even far near low enough so
    c.lift_second.ensures.others c.lift_second.ensures.row

pub returns-else-y-height : goal.returns-else-y-height
returns-else-y-height c = λ area made first third fourth each size far near low most enough so. second_past area c.args.columns made first c.args.y third fourth _ (omega arith) so
