use Rattle.std.proofs.Common.{◌≡◌, ◌*◌, ◌^◌, ◌≤◌, take, sum_by}
use Rattle.codec_terms.specs.Bands.{all_bands}
use Rattle.band_starts.specs.Blocks.{block_count}
use Rattle.band_starts.proofs.blocks.blocks_before.Given as goal

abbrev pub invariant-loop-place : goal.invariant-loop-place
invariant-loop-place l = record {
  sum : l.count ≡ sum_by (block_count l.shape) (take l.place all_bands);
  few : l.count ≤ l.place * 2 ^ 22;
}
