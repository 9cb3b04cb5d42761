use Rattle.band_starts.specs.Blocks.{block_count}
use Rattle.band_starts.proofs.Members.{next_start}
use Rattle.band_starts.proofs.Counts.{block_place-within, all_block_count-few}
use Rattle.band_starts.proofs.blocks.block_laws.Goals as goal

pub returns-clause-within : goal.returns-clause-within
returns-clause-within c = block_place-within

pub returns-clause-next : goal.returns-clause-next
returns-clause-next c = λ shape band next is e. next_start (block_count shape) band next is e

pub returns-clause-few : goal.returns-clause-few
returns-clause-few c = all_block_count-few
