use Rattle.std.proofs.Common.{◌+◌, ◌-◌, ◌*◌, ◌/◌, ◌≤◌, ◌<◌, ℕ}
use Rattle.std.specs.Int.{w64, trailing_zeros}
use Rattle.codec_terms.specs.BlockDecisions.{Block, Walk}
use Rattle.block_passes.specs.Left.{HasCleaned}
use Rattle.block_passes.specs.Told.{IsPlane, HasTold}
use Rattle.block_passes.proofs.cleanup.clean_word.Given as goal

abbrev pub invariant-loop-rest : goal.invariant-loop-rest
invariant-loop-rest l = record {
  told : (b : Block) (p : ℕ) (v : Walk) → IsPlane b p l.plane → HasTold b l.fn.state v → HasCleaned b p l.w v l.state l.rest;
  fits : l.rest.left < 18446744073709551616;
  count : l.state.count ≤ l.fn.state.count + 2 * trailing_zeros w64 l.rest.left + 2 * ((trailing_zeros w64 l.rest.left + 3) / 4);
}

abbrev pub decreases-loop-rest : goal.decreases-loop-rest
decreases-loop-rest l = 64 - trailing_zeros w64 l.rest.left
