use Rattle.codec_terms.specs.BlockDecisions.{Block}
use Rattle.block_sets.specs.Planes.{HasPlanesOf}
use Rattle.block_sets.proofs.WordByWord.{TellsWords}
use Rattle.block_sets.proofs.Unions.{between}
use Rattle.block_sets.proofs.start.unite_above.Given as goal

abbrev pub invariant-loop-p : goal.invariant-loop-p
invariant-loop-p l = (b : Block) → HasPlanesOf b l.planes → TellsWords b.width (between b l.index l.p) l.set
