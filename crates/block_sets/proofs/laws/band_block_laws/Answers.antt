use Rattle.block_sets.proofs.BandBlocks.{rows-of_band, block-whole}
use Rattle.block_sets.proofs.laws.band_block_laws.Goals as goal

pub returns : goal.returns
returns c = record { rows = rows-of_band; whole = block-whole }
