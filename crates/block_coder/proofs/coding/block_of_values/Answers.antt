use Rattle.std.proofs.Common.{refl}
use Rattle.block_sets.specs.Planes.{AreSetsOf}
use Rattle.block_coder.specs.Blocks.{block_with}
use Rattle.block_coder.proofs.coding.block_of_values.Goals as goal

-- the sets are those of the values
are_sets : (c : goal.After-block_of_sets) → AreSetsOf (block_with c.args.kind c.args.width c.args.height c.args.values.now) c.split_block.new.sets
are_sets c =
    let b = block_with c.args.kind c.args.width c.args.height c.args.values.now in
    c.split_block.ensures b c.requires.width c.requires.height c.requires.whole (c.fill_from_values.ensures b refl refl refl)

pub returns-clause-block : goal.returns-clause-block
returns-clause-block c =
    c.block_of_sets.ensures.block (block_with c.args.kind c.args.width c.args.height c.args.values.now) refl refl refl (are_sets c)

pub returns-clause-same : goal.returns-clause-same
returns-clause-same c =
    c.block_of_sets.ensures.same (block_with c.args.kind c.args.width c.args.height c.args.values.now) refl refl refl (are_sets c)
