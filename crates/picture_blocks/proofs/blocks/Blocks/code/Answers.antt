use Rattle.picture_blocks.proofs.Values.{all_small}
use Rattle.picture_blocks.proofs.blocks.Blocks.code.Goals as goal

pub words_of-requires : goal.words_of-requires
words_of-requires c = all_small c.args.shape c.args.quantised.now c.requires.whole c.requires.fits
