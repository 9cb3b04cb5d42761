use Rattle.std.proofs.Common.{take}
use Rattle.pcm_mix.specs.Mix.{gained}
use Rattle.pcm_mix.specs.Sums.{value_at, AreRaised}
use Rattle.pcm_mix.proofs.gains.add_gains.Given as goal

abbrev pub invariant-loop-gain : goal.invariant-loop-gain
invariant-loop-gain l = AreRaised (gained (value_at l.samples) l.inputs (take l.gain-index l.gains)) l.count l.outputs l.initial.sums l.sums
