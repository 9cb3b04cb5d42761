use Rattle.std.proofs.Common.{arith}
use Rattle.band_starts.specs.Blocks.{block_count}
use Rattle.band_starts.proofs.Members.{sum_step}
use Rattle.band_starts.proofs.blocks.blocks_before.Goals as goal

pub loop-place-preserved : goal.loop-place-preserved
loop-place-preserved c = record {
  sum = sum_step (block_count c.args.shape) c.loop-place.place _ _ c.band_at.result c.band_at.ensures.listed c.loop-place.invariant.sum c.block_count-count.ensures.count;
  few = omega arith;
}
