use Rattle.block_reading.proofs.propagation.propagate.Goals as goal

pub returns-clause-told : goal.returns-clause-told
returns-clause-told c = λ k h some none. c.visit.ensures _ _ (c.read_zero_bit-bit.ensures.told k h some none) some
