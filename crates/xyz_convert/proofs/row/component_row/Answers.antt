use Rattle.xyz_convert.specs.Weighing.{weights_of}
use Rattle.xyz_convert.proofs.Planes.{sums-most}
use Rattle.xyz_convert.proofs.row.component_row.Goals as goal

pub code_row-requires-clause-sums : goal.code_row-requires-clause-sums
code_row-requires-clause-sums c =
    sums-most (weights_of c.args.weights) c.sum_row.new.sums c.args.red.now c.args.green.now c.args.blue.now c.requires.weights
    c.requires.red c.requires.green c.requires.blue c.sum_row.ensures
