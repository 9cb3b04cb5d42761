-- The laws of the parts of a grid.
use Rattle.codec_terms.proofs.GridLaws.{of_parts-part_at, blocks_in-precinct_number, grid_of-block_places}
use Rattle.codec_values.proofs.bands.part_laws.Goals as goal

pub returns-clause-coefficients : goal.returns-clause-coefficients
returns-clause-coefficients c = of_parts-part_at

pub returns-clause-blocks : goal.returns-clause-blocks
returns-clause-blocks c = of_parts-part_at

pub returns-clause-number : goal.returns-clause-number
returns-clause-number c = blocks_in-precinct_number

pub returns-clause-packet : goal.returns-clause-packet
returns-clause-packet c = grid_of-block_places
