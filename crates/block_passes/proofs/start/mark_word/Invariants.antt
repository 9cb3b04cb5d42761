use Rattle.std.proofs.Common.{◌≡◌, ◌-◌, ◌*◌, Bool, List, length}
use Rattle.std.specs.Int.{w64, trailing_zeros}
use Rattle.codec_terms.specs.BlockDecisions.{Block}
use Rattle.block_sets.specs.Planes.{HasPlanesOf}
use Rattle.block_passes.specs.Told.{HasBits}
use Rattle.block_passes.specs.Marking.{in_words, HasMarked, IsMarking}
use Rattle.block_passes.proofs.start.mark_word.Given as goal

abbrev pub invariant-loop-left : goal.invariant-loop-left
invariant-loop-left l = (b : Block) (samples : List Bool) → HasPlanesOf b l.planes → length samples ≡ b.width * b.height
    → HasBits b samples l.set → HasMarked b samples l.fn.words (in_words l.w) → IsMarking b samples l.words l.w l.left

abbrev pub decreases-loop-left : goal.decreases-loop-left
decreases-loop-left l = 64 - trailing_zeros w64 l.left
