use Rattle.std.proofs.Common.{◌≡◌, ℤ, List}
use Rattle.picture_sets.specs.Sets.{AreSetsOfPicture}
use Rattle.picture_blocks.specs.Blocks.{AreBlocksOf}
use Rattle.picture_blocks.proofs.Steps.{AreBandsCoded}
use Rattle.picture_blocks.proofs.blocks.Blocks.code_to_cut.Given as goal

abbrev pub invariant-loop-place : goal.invariant-loop-place
invariant-loop-place l = record {
  shape : l.self.shape ≡ l.fn.self.shape;
  blocks : (q : List ℤ) → AreSetsOfPicture q l.sets → AreBlocksOf q l.fn.self → AreBlocksOf q l.self;
  coded : (q : List ℤ) → AreSetsOfPicture q l.sets → AreBlocksOf q l.fn.self → AreBandsCoded q l.cut l.place l.self;
}
