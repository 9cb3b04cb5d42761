-- The law of sub-bands that are read.
use Rattle.stream_laws.proofs.BandValues.{bands-read}
use Rattle.stream_laws.proofs.band_value_laws.Goals as goal

pub returns : goal.returns
returns c = record { band = bands-read c.block_read_laws.ensures.kept }
