use Rattle.std.proofs.Common.{◌+◌, ◌-◌, ◌*◌, ◌≤◌, ℕ}
use Rattle.std.specs.Int.{w64, trailing_zeros}
use Rattle.codec_terms.specs.BlockDecisions.{Block, Walk}
use Rattle.block_passes.specs.Told.{IsPlane, HasTold}
use Rattle.block_passes.specs.Candidates.{HasPropagated}
use Rattle.block_passes.proofs.propagation.propagate_word.Given as goal

abbrev pub invariant-loop-candidates : goal.invariant-loop-candidates
invariant-loop-candidates l = record {
  told : (b : Block) (p : ℕ) (v : Walk) → IsPlane b p l.plane → HasTold b l.fn.state v → HasPropagated b p l.w v l.state l.candidates l.free;
  count : l.state.count ≤ l.fn.state.count + 2 * trailing_zeros w64 l.candidates;
}

abbrev pub decreases-loop-candidates : goal.decreases-loop-candidates
decreases-loop-candidates l = 64 - trailing_zeros w64 l.candidates
