use Rattle.std.proofs.Common.{◌+◌, arith}
use Rattle.block_sets.proofs.Around.{TellsThree, right-even, right-odd}
use Rattle.block_sets.proofs.neighbours.right.Goals as goal

pub returns-then-w-eq1 : goal.returns-then-w-eq1
returns-then-w-eq1 c = λ i p.
    let here : TellsThree c.args.set.now c.args.w c.three-here.result = record { fits = omega arith; bit = c.three-here.ensures } in
    right-odd c.args.set.now c.args.w i c.requires p _ here (omega arith)

pub returns-else-w-eq1 : goal.returns-else-w-eq1
returns-else-w-eq1 c = λ i p.
    let here : TellsThree c.args.set.now c.args.w c.three-here.result = record { fits = omega arith; bit = c.three-here.ensures } in
    let beside : TellsThree c.args.set.now (c.args.w + 1) c.three.result = record { fits = omega arith; bit = c.three.ensures } in
    right-even c.args.set.now c.args.w i c.requires p _ here _ (omega arith) beside
