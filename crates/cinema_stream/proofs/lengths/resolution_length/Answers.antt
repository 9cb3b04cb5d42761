use Rattle.std.proofs.Common.{◌≡◌, ◌∙◌, ℕ, ◌+◌, sym, ap, subst, arith}
use Rattle.codec_terms.specs.declared.picture.Shape.{Shape}
use Rattle.codec_laws.specs.Bounds.{IsPictureSize}
use Rattle.band_laws.specs.Places.{precinct_count}
use Rattle.cinema_stream.proofs.Resolutions.{first_length, first-none, first-more, first-all, first-within, resolution-bound}
use Rattle.cinema_stream.proofs.lengths.resolution_length.Goals as goal

pub loop-number-init : goal.loop-number-init
loop-number-init c = λ q coded. sym (first-none c.args.blocks.now.shape q c.args.cut c.args.component c.args.resolution)

pub loop-number-preserved : goal.loop-number-preserved
loop-number-preserved c = λ q coded.
    omega (
      arith,
      c.loop-number.invariant q coded,
      c.packet_length-length.ensures q coded,
      first-more c.args.blocks.now.shape q c.args.cut c.args.component c.args.resolution c.loop-number.number,
    )

pub overflow_add-length : goal.overflow_add-length
overflow_add-length c =
    let q = c.requires.coded.0 in
    let coded = c.requires.coded.1 in
    let size : IsPictureSize c.args.blocks.now.shape = subst IsPictureSize c.requires.shape c.requires.size in
    let shape = c.args.blocks.now.shape in
    let count : c.precinct_count-number-end.result ≡ precinct_count shape c.args.resolution =
    c.precinct_count-number-end.ensures ∙ ap (λ (s : Shape). precinct_count s c.args.resolution) c.requires.shape in
    omega (
      arith,
      c.loop-number.invariant q coded,
      c.packet_length-length.ensures q coded,
      first-more shape q c.args.cut c.args.component c.args.resolution c.loop-number.number,
      first-within shape q c.args.cut c.args.component c.args.resolution (c.loop-number.number + 1) (omega (arith, count)),
      resolution-bound shape q c.args.cut c.args.component c.args.resolution size coded.fits c.requires.component c.requires.resolution,
    )

pub returns : goal.returns
returns c = λ q coded.
    let shape = c.args.blocks.now.shape in
    let count : c.precinct_count-number-end.result ≡ precinct_count shape c.args.resolution =
    c.precinct_count-number-end.ensures ∙ ap (λ (s : Shape). precinct_count s c.args.resolution) c.requires.shape in
    let end : c.loop-number.number ≡ precinct_count shape c.args.resolution = omega arith in
    c.loop-number.invariant q coded
    ∙ ap (λ (n : ℕ). first_length shape q c.args.cut c.args.component c.args.resolution n) end
    ∙ first-all shape q c.args.cut c.args.component c.args.resolution
