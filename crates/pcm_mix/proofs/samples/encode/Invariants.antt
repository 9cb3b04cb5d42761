use Rattle.std.proofs.Common.{◌≡◌, ◌*◌, take}
use Rattle.std.specs.Prelude.{flat_map}
use Rattle.pcm_mix.specs.Mix.{sample_bytes, saturated}
use Rattle.pcm_mix.proofs.samples.encode.Given as goal

abbrev pub invariant-loop-k : goal.invariant-loop-k
invariant-loop-k l = take (3 * l.k) l.bytes ≡ flat_map (λ sum. sample_bytes (saturated sum)) (take l.k l.sums)
