-- The law of a block's bit-planes.
use Rattle.codec_laws.proofs.Planes.{plane_count-block_of}
use Rattle.codec_laws.proofs.blocks.plane_laws.Goals as goal

pub returns : goal.returns
returns c = plane_count-block_of
