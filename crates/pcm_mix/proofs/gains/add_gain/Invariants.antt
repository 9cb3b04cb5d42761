use Rattle.std.proofs.Common.{◌≡◌, ℕ, ◌<◌, ◌≤◌, [], ◌∷◌}
use Rattle.pcm_mix.specs.Mix.{gained}
use Rattle.pcm_mix.specs.Sums.{sum_at, value_at, AreRaised}
use Rattle.pcm_mix.proofs.gains.add_gain.Given as goal

-- the sums of the first samples are raised, and the others are as they were
abbrev pub invariant-loop-i : goal.invariant-loop-i
invariant-loop-i l = record {
  raised : AreRaised (gained (value_at l.samples) l.inputs (l.fn.gain ∷ [])) l.i l.outputs l.initial.sums l.sums;
  rest : (i to : ℕ) → l.i ≤ i → i < l.count → to < l.outputs → sum_at l.outputs l.sums i to ≡ sum_at l.outputs l.initial.sums i to;
}
