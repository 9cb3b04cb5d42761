use Rattle.std.proofs.Common.{◌∙◌, drop, length, ap, arith}
use Rattle.std.proofs.lemmas.List.{take_at}
use Rattle.std.specs.List.{flat_map}
use Rattle.pcm_mix.specs.Mix.{mixed, sample_bytes, samples_of, saturated, sound_frame}
use Rattle.pcm_mix.proofs.Frames.{bytes_of_sums}
use Rattle.pcm_mix.proofs.frame.sound_frame.Goals as goal

pub returns-clause-sound : goal.returns-clause-sound
unfolding sound_frame
returns-clause-sound g c = λ tells.
    let project = c.args.project.now in
    c.from.ensures
    ∙ take_at c.encode.new.bytes (drop (length c.encode.new.bytes) c.resize.new.self.items) c.resize.new.self.len (omega arith)
    ∙ c.encode.ensures
    ∙ ap (flat_map (λ sum. sample_bytes (saturated sum))) c.deref.ensures.value
    ∙ bytes_of_sums (λ sum. sample_bytes (saturated sum)) (mixed (g.S.Source.file c.args.source.now) project c.args.f) project.channels (samples_of project)
    c.in_ok-sums.sums.items c.in_ok-sums.ensures.count (c.in_ok-sums.ensures.sums tells)
