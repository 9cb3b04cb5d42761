use Rattle.std.proofs.Common.{arith, take, length-take}
use Rattle.std.proofs.lemmas.Int.{ints}
use Rattle.std.proofs.lemmas.List.Elements.{All-take}
use Rattle.film_project.specs.Rules.{FitsGain}
use Rattle.pcm_mix.specs.Sums.{value_at}
use Rattle.pcm_mix.proofs.Totals.{gained_more, gained_within}
use Rattle.pcm_mix.proofs.gains.add_gains.Goals as goal

pub add_gain-requires-clause-room : goal.add_gain-requires-clause-room
add_gain-requires-clause-room c = λ i to i_below to_below.
    let n = c.loop-gain.gain-index in
    let part = gained_within (value_at c.args.samples.now) c.args.inputs c.args.outputs (take n c.args.gains.now) i to c.requires.small
    (All-take (FitsGain c.args.inputs c.args.outputs) n c.args.gains.now c.requires.fits) (omega (arith, length-take n c.args.gains.now)) in
    omega (arith, ints, part, c.loop-gain.invariant i to i_below to_below, c.requires.room i to i_below to_below)

pub loop-gain-preserved : goal.loop-gain-preserved
loop-gain-preserved c = λ i to i_below to_below.
    omega (
      arith,
      ints,
      c.add_gain.ensures i to i_below to_below,
      c.loop-gain.invariant i to i_below to_below,
      gained_more (value_at c.args.samples.now) c.args.inputs c.args.gains.now c.loop-gain.gain-index c.gain-item.result i to c.loop-gain-test.true c.gain-item.is,
    )
