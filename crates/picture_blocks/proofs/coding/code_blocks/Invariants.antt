use Rattle.std.proofs.Common.{ℤ, List}
use Rattle.picture_sets.specs.Sets.{AreSetsOfPicture}
use Rattle.picture_blocks.specs.Blocks.{of_picture, AreBlocksOf, IsFurther}
use Rattle.picture_blocks.proofs.Steps.{AreFirstCoded}
use Rattle.picture_blocks.proofs.coding.code_blocks.Given as goal

abbrev pub invariant-loop-n : goal.invariant-loop-n
invariant-loop-n l = record {
  blocks : (q : List ℤ) → AreSetsOfPicture q l.sets → AreBlocksOf q (of_picture l.sets.shape l.fn.blocks) → AreBlocksOf q (of_picture l.sets.shape l.blocks);
  further : IsFurther (of_picture l.sets.shape l.fn.blocks) (of_picture l.sets.shape l.blocks);
  coded : (q : List ℤ) → AreSetsOfPicture q l.sets → AreFirstCoded q l.band l.lowest l.n l.sets.shape l.blocks;
}
