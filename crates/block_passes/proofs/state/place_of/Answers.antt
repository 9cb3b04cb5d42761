use Rattle.std.proofs.Common.{arith}
use Rattle.block_passes.proofs.Offsets.{offset-is}
use Rattle.block_passes.proofs.state.place_of.Goals as goal

pub returns : goal.returns
returns c = omega (arith, c.from.ensures, offset-is c.args.i c.requires.i)
