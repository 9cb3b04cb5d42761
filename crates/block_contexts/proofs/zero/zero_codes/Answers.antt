use Rattle.block_contexts.proofs.Tables.{low-LL, turned-HL, low-LH, high-HH}
use Rattle.block_contexts.proofs.zero.zero_codes.Goals as goal

pub returns-in-LL : goal.returns-in-LL
returns-in-LL c = rw c.in-LL.is low-LL

pub returns-in-HL : goal.returns-in-HL
returns-in-HL c = rw c.in-HL.is turned-HL

pub returns-in-LH : goal.returns-in-LH
returns-in-LH c = rw c.in-LH.is low-LH

pub returns-in-HH : goal.returns-in-HH
returns-in-HH c = rw c.in-HH.is high-HH
