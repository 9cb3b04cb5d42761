use Rattle.std.proofs.Common.{◌∙◌, arith, ap}
use Rattle.codec_terms.specs.Bands.{band_place}
use Rattle.picture_sets.proofs.Counts.{before, one_more}
use Rattle.picture_sets.proofs.starts.block_starts.Goals as goal

pub loop-place-preserved : goal.loop-place-preserved
loop-place-preserved c =
    let l = c.loop-place in
    one_more c.args.shape l.starts l.place c.block_start.result c.loop-place-test.true l.invariant
    (c.block_start.ensures.start ∙ ap (before c.args.shape) c.band_at.ensures.place)

pub returns : goal.returns
returns c = λ band picture.
    let inside = c.place_laws.ensures.within band picture in
    c.loop-place.invariant.each (band_place band) (omega (arith, c.loop-place-test.false, inside))
