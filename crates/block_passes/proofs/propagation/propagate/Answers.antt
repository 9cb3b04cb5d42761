use Rattle.block_passes.proofs.propagation.propagate.Goals as goal

pub returns-clause-told : goal.returns-clause-told
returns-clause-told c = λ b p v is h some. c.visit.ensures.told b _ (c.code_bit-bit.ensures.told b p v is h some) some
