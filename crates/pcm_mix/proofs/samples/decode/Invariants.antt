use Rattle.std.proofs.Common.{◌≡◌, ℕ, ◌<◌, ◌≤◌, ◌^◌, unsigned_abs}
use Rattle.pcm_mix.specs.Mix.{sample_at}
use Rattle.pcm_mix.specs.Sums.{value_at}
use Rattle.pcm_mix.proofs.samples.decode.Given as goal

abbrev pub invariant-loop-k : goal.invariant-loop-k
invariant-loop-k l = record {
  values : (j : ℕ) → j < l.k → value_at l.samples j ≡ sample_at l.bytes j;
  small : (j : ℕ) → j < l.k → unsigned_abs (value_at l.samples j) ≤ 2 ^ 23;
}
