use Rattle.std.proofs.Common.{arith}
use Rattle.dwt97.proofs.Sweep.{OnlyRow, Lifts, Made, first_done, first_past}
use Rattle.dwt97.proofs.rounds.first_of.Goals as goal

pub returns-then-y-height : goal.returns-then-y-height
unfolding OnlyRow Lifts Made
returns-then-y-height c = λ area made second third fourth each size far near most enough so.
    first_done area c.args.columns c.args.height made c.args.y second third fourth c.args.plane.now _ c.requires.height each size c.if-y-height.true c.requires.odd far near enough so
    c.lift_first.ensures.others c.lift_first.ensures.row

pub returns-else-y-height : goal.returns-else-y-height
returns-else-y-height c = λ area made second third fourth each size far near most enough so. first_past area c.args.columns made c.args.y second third fourth _ (omega arith) so
