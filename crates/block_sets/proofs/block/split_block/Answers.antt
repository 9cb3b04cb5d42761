use Rattle.block_sets.proofs.Blocks.{sets-of_square}
use Rattle.block_sets.proofs.block.split_block.Goals as goal

pub returns : goal.returns
returns c = λ b narrow low whole square.
    sets-of_square b c.args.square.now c.split.new.sets _ narrow low whole square c.split.ensures
    c.drop_signs_of_zeros.ensures.planes c.drop_signs_of_zeros.ensures.signs
