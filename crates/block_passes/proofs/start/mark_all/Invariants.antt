use Rattle.std.proofs.Common.{◌≡◌, ◌*◌, Bool, List, length}
use Rattle.codec_terms.specs.BlockDecisions.{Block}
use Rattle.block_sets.specs.Planes.{HasPlanesOf}
use Rattle.block_passes.specs.Told.{HasBits}
use Rattle.block_passes.specs.Marking.{in_words, HasMarked}
use Rattle.block_passes.proofs.start.mark_all.Given as goal

abbrev pub invariant-loop-w : goal.invariant-loop-w
invariant-loop-w l = (b : Block) (samples : List Bool) → HasPlanesOf b l.planes → length samples ≡ b.width * b.height
    → HasBits b samples l.set → HasMarked b samples l.words (in_words l.w)
