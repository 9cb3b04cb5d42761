-- The laws of sizes.
use Rattle.cut_laws.proofs.Lengths.{packets-sum, part-size}
use Rattle.cut_laws.proofs.sizes.size_laws.Goals as goal

pub returns-clause-packets : goal.returns-clause-packets
returns-clause-packets c = packets-sum

pub returns-clause-part : goal.returns-clause-part
returns-clause-part c = part-size
