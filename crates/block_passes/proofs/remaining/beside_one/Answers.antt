use Rattle.std.proofs.Common.{arith}
use Rattle.block_passes.proofs.Masks.{next-none, next-same, next-columns}
use Rattle.block_passes.proofs.remaining.beside_one.Goals as goal

pub invariant_of-result : goal.invariant_of-result
invariant_of-result c = record { columns = next-columns c.args.rest.runs c.args.i c.requires c.args.rest.columns }

pub returns-clause-next : goal.returns-clause-next
returns-clause-next c = λ j q e. next-none c.args.rest.runs c.args.i c.requires j q e

pub returns-clause-same : goal.returns-clause-same
returns-clause-same c = λ j p q ne. next-same c.args.rest.runs c.args.i c.requires j q (λ here. ne (omega (arith, here)))
