use Rattle.std.proofs.Common.{refl, arith}
use Rattle.block_passes.proofs.States.{told-visited_at}
use Rattle.block_passes.proofs.sample.visit.Goals as goal

pub returns-clause-told : goal.returns-clause-told
returns-clause-told c = λ b v h some.
    told-visited_at b c.args.w c.args.i c.requires.w c.requires.i some c.args.state.now _ v (omega arith) refl refl refl refl refl h
