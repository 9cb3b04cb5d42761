use Rattle.block_sets.proofs.Bits.{zeros-at}
use Rattle.block_sets.proofs.square.fill_row_at.Goals as goal

pub returns-else-y-height-clause-beside : goal.returns-else-y-height-clause-beside
returns-else-y-height-clause-beside c = λ x p. zeros-at 32 x

pub returns-else-y-height-clause-below : goal.returns-else-y-height-clause-below
returns-else-y-height-clause-below c = λ h x. zeros-at 32 x
