use Rattle.std.proofs.Common.{◌-◌, arith}
use Rattle.block_sets.proofs.Around.{TellsThree, left-even, left-odd}
use Rattle.block_sets.proofs.neighbours.left.Goals as goal

pub returns-then-w-eq0 : goal.returns-then-w-eq0
returns-then-w-eq0 c = λ i p.
    let here : TellsThree c.args.set.now c.args.w c.three-here.result = record { fits = omega arith; bit = c.three-here.ensures } in
    left-even c.args.set.now c.args.w i c.requires p _ here (omega arith)

pub returns-else-w-eq0 : goal.returns-else-w-eq0
returns-else-w-eq0 c = λ i p.
    let here : TellsThree c.args.set.now c.args.w c.three-here.result = record { fits = omega arith; bit = c.three-here.ensures } in
    let beside : TellsThree c.args.set.now (c.args.w - 1) c.three.result = record { fits = omega arith; bit = c.three.ensures } in
    left-odd c.args.set.now c.args.w i c.requires p _ here _ (omega arith) beside
