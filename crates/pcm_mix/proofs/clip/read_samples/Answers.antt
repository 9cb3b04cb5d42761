use Rattle.std.proofs.Common.{◌≡◌, ◌+◌, ◌-◌, ◌*◌, length, drop, ap, ap₂, sym, subst, ◌∙◌, arith}
use Rattle.std.proofs.lemmas.List.{take_at}
use Rattle.film_project.specs.Facts.{asset_at}
use Rattle.mast_world.specs.Content.{part_of, Reaches}
use Rattle.pcm_mix.specs.Mix.{clip_frame, clip_size, sample_at}
use Rattle.pcm_mix.specs.Sums.{value_at}
use Rattle.pcm_mix.proofs.ClipFrames.{frame_end, reaches_less}
use Rattle.pcm_mix.proofs.clip.read_samples.Goals as goal

pub read-requires : goal.read-requires
read-requires g c = λ tells.
    let project = c.args.project.now in
    let clip = c.args.clip.now in
    let asset : c.asset_at-asset.result.now ≡ asset_at project clip.asset = c.asset_at-asset.ensures ∙ ap (λ s. asset_at project s.asset) c.clip.view_is in
    let file : c.as_slice.result.now ≡ (asset_at project clip.asset).file = c.as_slice.ensures ∙ ap (λ a. a.file) (c.asset.view_is ∙ asset) in
    let channels : c.from.result ≡ (asset_at project clip.asset).channels = c.from.ensures ∙ ap (λ a. a.channels) (c.asset.view_is ∙ asset) in
    let count : c.samples_of.result * c.from.result * 3 ≡ clip_size project clip = ap₂ (λ m n. m * n * 3) c.samples_of.ensures.value channels in
    let size : c.len.result ≡ clip_size project clip = omega (arith, count, c.len.ensures, c.in_ok-resize.ensures.len) in
    let index : c.from-index.result ≡ clip.from + (c.args.f - clip.at) = c.from-index.ensures ∙ ap (λ s. s.from + (c.args.f - s.at)) c.clip.view_is in
    subst (λ f. Reaches (g.S.Source.file c.args.source.now f) (c.from-index.result * c.len.result + length c.deref_mut.result.now)) (sym file)
    (reaches_less (g.S.Source.file c.args.source.now (asset_at project clip.asset).file) (c.from-index.result * c.len.result + length c.deref_mut.result.now)
    ((clip.from + clip.count) * clip_size project clip)
    (frame_end clip c.args.f (clip_size project clip) c.from-index.result c.len.result (length c.deref_mut.result.now) c.requires.plays index size
    (c.deref_mut.ensures.len ∙ sym c.len.ensures ∙ size)) (c.requires.there tells))

pub returns-clause-samples : goal.returns-clause-samples
returns-clause-samples g c = λ tells k.
    let project = c.args.project.now in
    let clip = c.args.clip.now in
    let files = g.S.Source.file c.args.source.now in
    let asset : c.asset_at-asset.result.now ≡ asset_at project clip.asset = c.asset_at-asset.ensures ∙ ap (λ s. asset_at project s.asset) c.clip.view_is in
    let file : c.as_slice.result.now ≡ (asset_at project clip.asset).file = c.as_slice.ensures ∙ ap (λ a. a.file) (c.asset.view_is ∙ asset) in
    let channels : c.from.result ≡ (asset_at project clip.asset).channels = c.from.ensures ∙ ap (λ a. a.channels) (c.asset.view_is ∙ asset) in
    let count : c.samples_of.result * c.from.result * 3 ≡ clip_size project clip = ap₂ (λ m n. m * n * 3) c.samples_of.ensures.value channels in
    let size : c.len.result ≡ clip_size project clip = omega (arith, count, c.len.ensures, c.in_ok-resize.ensures.len) in
    let index : c.from-index.result ≡ clip.from + (c.args.f - clip.at) = c.from-index.ensures ∙ ap (λ s. s.from + (c.args.f - s.at)) c.clip.view_is in
    let read : c.read.new.into ≡ clip_frame files project clip c.args.f =
    c.in_ok-read.ensures.bytes tells
    ∙ ap (λ name. part_of (files name) (c.from-index.result * c.len.result) (length c.deref_mut.result.now)) file
    ∙ ap (λ n. part_of (files (asset_at project clip.asset).file) (c.from-index.result * c.len.result) n) (c.deref_mut.ensures.len ∙ sym c.len.ensures ∙ size)
    ∙ ap₂ (λ m n. part_of (files (asset_at project clip.asset).file) (m * n) (clip_size project clip)) index size in
    let bytes : c.deref.result.now ≡ c.read.new.into =
    c.deref.ensures.value ∙ take_at c.read.new.into (drop (length c.read.new.into) c.resize.new.self.items) c.resize.new.self.len (omega arith) in
    ap (λ l. value_at l k) (take_at c.decode.new.samples (drop (length c.decode.new.samples) c.resize-2.new.self.items) c.resize-2.new.self.len (omega arith))
    ∙ c.decode.ensures.values k ∙ ap (λ b. sample_at b k) (bytes ∙ read)
