use Rattle.std.proofs.Common.{arith, refl}
use Rattle.block_sets.proofs.Masks.{has_bits}
use Rattle.block_sets.proofs.Frames.{rows-mask, all_rows}
use Rattle.block_sets.proofs.samples.first_rows.Goals as goal

pub returns-in-1 : goal.returns-in-1
unfolding has_bits
returns-in-1 c = λ i p. rw c.in-1.is (rows-mask 1229782938247303441 1 i refl p)

pub returns-in-2 : goal.returns-in-2
unfolding has_bits
returns-in-2 c = λ i p. rw c.in-2.is (rows-mask 3689348814741910323 2 i refl p)

pub returns-in-3 : goal.returns-in-3
unfolding has_bits
returns-in-3 c = λ i p. rw c.in-3.is (rows-mask 8608480567731124087 3 i refl p)

pub returns-in_default : goal.returns-in_default
returns-in_default c = λ i p. all_rows c.args.count i (omega arith) p
