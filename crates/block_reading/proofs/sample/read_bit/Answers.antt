use Rattle.block_reading.specs.Known.{area_of}
use Rattle.block_reading.proofs.Cells.{known-behind, bit-known}
use Rattle.block_reading.proofs.sample.read_bit.Goals as goal

pub returns-clause-told : goal.returns-clause-told
returns-clause-told c = λ k h. known-behind (area_of c.args.field.now) _ _ _ k c.args.context c.bit.ensures.after h

pub returns-clause-bit : goal.returns-clause-bit
returns-clause-bit c = λ k h. bit-known (area_of c.args.field.now) _ _ k c.args.context _ c.bit.ensures.bit h
