use Rattle.std.proofs.Common.{arith}
use Rattle.xyz_convert.specs.Weighing.{weights_of}
use Rattle.xyz_convert.proofs.Sums.{low-small, sum_of-halves, sum_of-small}
use Rattle.xyz_convert.proofs.weights.sum_of.Goals as goal

pub overflow_add-low-2 : goal.overflow_add-low-2
overflow_add-low-2 c =
    omega (arith, low-small c.args.weights.red c.args.red, low-small c.args.weights.green c.args.green, low-small c.args.weights.blue c.args.blue)

pub returns-clause-sum : goal.returns-clause-sum
returns-clause-sum c = sum_of-halves (weights_of c.args.weights) c.args.red c.args.green c.args.blue

pub returns-clause-within : goal.returns-clause-within
returns-clause-within c =
    let w = weights_of c.args.weights in
    rw (sum_of-halves w c.args.red c.args.green c.args.blue)
    (sum_of-small w c.args.red c.args.green c.args.blue c.requires.weights c.requires.red c.requires.green c.requires.blue)
