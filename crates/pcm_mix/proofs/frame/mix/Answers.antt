use Rattle.std.proofs.Common.{◌≡◌, ◌+◌, ◌*◌, drop, length, replicate, ap, ◌∙◌, pos, arith, rules}
use Rattle.std.proofs.lemmas.Int.{ints}
use Rattle.std.proofs.lemmas.List.{take_at}
use Rattle.pcm_mix.specs.Sums.{sum_at}
use Rattle.pcm_mix.proofs.Frames.{no_sums}
use Rattle.pcm_mix.proofs.frame.mix.Goals as goal

pub returns-clause-sums : goal.returns-clause-sums
returns-clause-sums g c = λ tells i to i_below to_below.
    let channels = c.args.project.now.channels in
    let zeros : c.in_ok-sums.sums.items ≡ replicate (c.samples_of.result * c.from.result) (pos 0) = search rules in
    let before : sum_at channels c.deref_mut.result.now i to ≡ pos 0 =
    no_sums c.deref_mut.result.now (c.samples_of.result * c.from.result) (i * channels + to) (c.deref_mut.ensures.value ∙ zeros) in
    ap (λ sums. sum_at channels sums i to) (take_at c.add_clips.new.sums (drop (length c.add_clips.new.sums) c.in_ok-sums.sums.items) c.in_ok-sums.sums.len (omega arith))
    ∙ omega (arith, ints, before, c.in_ok-add_clips.ensures.raised tells i to i_below to_below)
