-- The laws of precincts.
use Rattle.codec_laws.proofs.BlockPlaces.{one_precincts}
use Rattle.codec_laws.proofs.BlocksFound.{band_blocks-are}
use Rattle.codec_laws.proofs.packets.precinct_laws.Goals as goal

pub returns-clause-one : goal.returns-clause-one
returns-clause-one c = one_precincts

pub returns-clause-found : goal.returns-clause-found
returns-clause-found c = band_blocks-are
