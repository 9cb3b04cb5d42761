-- The laws of sub-bands and of code-blocks.
use Rattle.codec_terms.proofs.BandLaws.{sum_by-component_bands}
use Rattle.codec_terms.proofs.BlockLaws.{one_block, one_precinct, has_precincts}
use Rattle.codec_values.proofs.bands.sub_band_laws.Goals as goal

pub returns-clause-sizes : goal.returns-clause-sizes
returns-clause-sizes c = sum_by-component_bands

pub returns-clause-blocks : goal.returns-clause-blocks
returns-clause-blocks c = one_block

pub returns-clause-precincts : goal.returns-clause-precincts
returns-clause-precincts c = one_precinct

pub returns-clause-reach : goal.returns-clause-reach
returns-clause-reach c = has_precincts
