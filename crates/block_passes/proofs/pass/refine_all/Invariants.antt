use Rattle.std.proofs.Common.{◌+◌, ◌*◌, ◌≤◌, ℕ, fold}
use Rattle.std.specs.List.{range_with_len}
use Rattle.codec_terms.specs.BlockDecisions.{Block, Walk}
use Rattle.block_passes.specs.Told.{IsPlane, HasTold}
use Rattle.block_passes.proofs.Words.{word_refined}
use Rattle.block_passes.proofs.pass.refine_all.Given as goal

abbrev pub invariant-loop-w : goal.invariant-loop-w
invariant-loop-w l = record {
  told : (b : Block) (p : ℕ) (v : Walk) → IsPlane b p l.plane → HasTold b l.fn.state v
      → HasTold b l.state (fold (word_refined b p) v (range_with_len 0 l.w));
  count : l.state.count ≤ l.fn.state.count + 160 * l.w;
}
