use Rattle.band_reading.proofs.Standing.{block_small}
use Rattle.band_reading.proofs.block.block_samples.Goals as goal

pub returns-clause-few : goal.returns-clause-few
returns-clause-few c = block_small _ _ _ _ _ _ c.block_size-width.ensures.width c.block_size-width.ensures.height
