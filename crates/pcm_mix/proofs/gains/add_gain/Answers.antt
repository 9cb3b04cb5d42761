use Rattle.std.proofs.Common.{◌≡◌, ◌≤◌, ◌<◌, ◌+◌, ◌*◌, ◌^◌, [], ◌∷◌, ℤ, pos, ◌+ℤ◌, ◌*ℤ◌, unsigned_abs, w64, to_z, of_z, ap, sym, ◌∙◌, arith}
use Rattle.std.proofs.lemmas.Int.{ints}
use Rattle.pcm_mix.specs.Mix.{gained}
use Rattle.pcm_mix.specs.Sums.{sum_at, value_at}
use Rattle.pcm_mix.proofs.Raised.{fits_computed, gained_elsewhere, gained_here, kept_more, raised_more, written}
use Rattle.pcm_mix.proofs.gains.add_gain.Goals as goal

pub overflow_add-sums-in-loop-i : goal.overflow_add-sums-in-loop-i
overflow_add-sums-in-loop-i c =
    let i = c.loop-i.i in
    let to = c.from-to.result in
    let place = i * c.args.inputs + c.from-from.result in
    let below : to < c.args.outputs = omega (arith, c.from-to.ensures, ap (λ g. g.to) c.gain.view_is, c.requires.to) in
    let read : c.from.result ≡ value_at c.args.samples.now place = omega (arith, ints, c.from.ensures, c.requires.small place) in
    let room : unsigned_abs (sum_at c.args.outputs c.loop-i.sums i to) ≤ 2 ^ 62 =
    omega (arith, ints, c.loop-i.invariant.rest i to (omega arith) c.loop-i-test.true below, c.requires.room i to c.loop-i-test.true below) in
    fits_computed (sum_at c.args.outputs c.loop-i.sums i to) c.from.result c.from-factor.result (value_at c.args.samples.now place) c.gain.inside.gain
    read c.from-factor.ensures room (c.requires.small place) c.gain.invariant.gain_in_range

pub loop-i-preserved : goal.loop-i-preserved
loop-i-preserved c =
    let i = c.loop-i.i in
    let to = c.from-to.result in
    let sample = value_at c.args.samples.now in
    let place = i * c.args.inputs + c.from-from.result in
    let same_from : c.from-from.result ≡ c.args.gain.from = c.from-from.ensures ∙ ap (λ g. g.from) c.gain.view_is in
    let same_to : to ≡ c.args.gain.to = c.from-to.ensures ∙ ap (λ g. g.to) c.gain.view_is in
    let same_gain : c.gain.inside.gain ≡ c.args.gain.gain = ap (λ g. g.gain) c.gain.view_is in
    let below : to < c.args.outputs = omega (arith, same_to, c.requires.to) in
    let read : c.from.result ≡ sample place = omega (arith, ints, c.from.ensures, c.requires.small place) in
    let before = c.loop-i.invariant.rest i to (omega arith) c.loop-i-test.true below in
    let room : unsigned_abs (sum_at c.args.outputs c.loop-i.sums i to) ≤ 2 ^ 62 = omega (arith, ints, before, c.requires.room i to c.loop-i-test.true below) in
    let v = to_z w64 (of_z w64 (to_z w64 (of_z w64 (sum_at c.args.outputs c.loop-i.sums i to))
    +ℤ to_z w64 (of_z w64 (to_z w64 (of_z w64 c.from.result) *ℤ to_z w64 (of_z w64 c.from-factor.result))))) in
    let is : v ≡ sum_at c.args.outputs c.args.sums.now i to +ℤ gained sample c.args.inputs (c.args.gain ∷ []) i to =
    written (sum_at c.args.outputs c.loop-i.sums i to) c.from.result c.from-factor.result (sample place) c.gain.inside.gain
    read c.from-factor.ensures room (c.requires.small place) c.gain.invariant.gain_in_range
    ∙ ap (λ (s : ℤ). s +ℤ sample place *ℤ pos c.gain.inside.gain) before
    ∙ ap (λ (s : ℤ). sum_at c.args.outputs c.args.sums.now i to +ℤ s)
    (ap (λ k. sample (i * c.args.inputs + k) *ℤ pos c.gain.inside.gain) same_from
    ∙ ap (λ n. sample (i * c.args.inputs + c.args.gain.from) *ℤ pos n) same_gain
    ∙ sym (gained_here sample c.args.inputs c.args.gain i to same_to)) in
    record {
      raised = raised_more (gained sample c.args.inputs (c.args.gain ∷ [])) c.args.count c.args.outputs i to c.args.sums.now c.loop-i.sums v
          c.loop-i-test.true below (c.loop-i.auto.sums ∙ c.requires.sums) c.loop-i.invariant.raised c.loop-i.invariant.rest is
          (λ b other. gained_elsewhere sample c.args.inputs c.args.gain i b (λ same. other (same ∙ sym same_to)));
      rest = kept_more c.args.count c.args.outputs i to c.args.sums.now c.loop-i.sums v below c.loop-i.invariant.rest;
    }
