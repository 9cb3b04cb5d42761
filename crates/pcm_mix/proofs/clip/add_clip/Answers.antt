use Rattle.std.proofs.Common.{◌≡◌, ap, ap₂, sym, subst, refl, ◌∙◌, ◌^◌, All, length, arith}
use Rattle.std.proofs.Math.Path.{fun_ext}
use Rattle.film_project.specs.Facts.{asset_at}
use Rattle.film_project.specs.Rules.{FitsGain}
use Rattle.pcm_mix.specs.Mix.{clip_frame, clip_part, gained, sample_at, samples_of}
use Rattle.pcm_mix.specs.Sums.{value_at, AreSamples}
use Rattle.pcm_mix.proofs.Raised.{raised_as, within_more}
use Rattle.pcm_mix.proofs.Totals.{gained_within}
use Rattle.pcm_mix.proofs.clip.add_clip.Goals as goal

pub returns-clause-raised : goal.returns-clause-raised
returns-clause-raised g c = λ tells.
    let project = c.args.project.now in
    let clip = c.args.clip.now in
    let files = g.S.Source.file c.args.source.now in
    let frame = clip_frame files project clip c.args.f in
    let asset = c.behind-project.view_is ∙ c.asset_at.ensures ∙ ap (λ s. asset_at project s.asset) c.clip.view_is in
    let inputs : c.from.result ≡ (asset_at project clip.asset).channels = c.from.ensures ∙ ap (λ a. a.channels) asset in
    let outputs : c.from-2.result ≡ project.channels = c.from-2.ensures ∙ ap (λ p. p.channels) c.project.view_is in
    let gains : c.as_slice.result.now ≡ clip.gains = c.as_slice.ensures ∙ ap (λ s. s.gains) c.clip.view_is in
    let samples : value_at c.deref.result.now ≡ sample_at frame = ap value_at c.deref.ensures.value ∙ fun_ext (c.in_ok-read_samples.ensures.samples tells) in
    raised_as (gained (value_at c.deref.result.now) c.from.result c.as_slice.result.now) (clip_part files project clip c.args.f)
    c.samples_of.result c.from-2.result (samples_of project) project.channels c.args.sums.now c.add_gains.new.sums c.samples_of.ensures.value outputs
    (λ i to. ap (λ s. gained s c.from.result c.as_slice.result.now i to) samples ∙ ap₂ (λ n all. gained (sample_at frame) n all i to) inputs gains)
    c.add_gains.ensures

pub returns-clause-within : goal.returns-clause-within
returns-clause-within g c = λ most within.
    let project = c.args.project.now in
    let clip = c.args.clip.now in
    let asset = c.behind-project.view_is ∙ c.asset_at.ensures ∙ ap (λ s. asset_at project s.asset) c.clip.view_is in
    let inputs : c.from.result ≡ (asset_at project clip.asset).channels = c.from.ensures ∙ ap (λ a. a.channels) asset in
    let outputs : c.from-2.result ≡ project.channels = c.from-2.ensures ∙ ap (λ p. p.channels) c.project.view_is in
    let gains : c.as_slice.result.now ≡ clip.gains = c.as_slice.ensures ∙ ap (λ s. s.gains) c.clip.view_is in
    let part = gained (value_at c.deref.result.now) c.from.result c.as_slice.result.now in
    let small : AreSamples c.deref.result.now = subst AreSamples (sym c.deref.ensures.value) c.in_ok-read_samples.ensures.small in
    let fits : All (FitsGain c.from.result project.channels) c.as_slice.result.now =
    subst (λ n. All (FitsGain n project.channels) c.as_slice.result.now) (sym inputs)
    (subst (All (FitsGain (asset_at project clip.asset).channels project.channels)) (sym gains) c.requires.fits.gains) in
    within_more part (samples_of project) project.channels most (2 ^ 49) c.args.sums.now c.add_gains.new.sums
    (raised_as part part c.samples_of.result c.from-2.result (samples_of project) project.channels c.args.sums.now c.add_gains.new.sums
    c.samples_of.ensures.value outputs (λ _ _. refl) c.add_gains.ensures)
    (λ i to. gained_within (value_at c.deref.result.now) c.from.result project.channels c.as_slice.result.now i to small fits
    (omega (arith, ap length gains, c.requires.fits.rules.most_gains))) within
