-- The law of a sub-band's code-blocks.
use Rattle.codec_laws.proofs.BlockPlaces.{blocks_give-values}
use Rattle.codec_laws.proofs.packets.block_laws.Goals as goal

pub returns : goal.returns
returns c = blocks_give-values
