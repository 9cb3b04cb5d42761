use Rattle.std.proofs.Common.{arith}
use Rattle.picture_sets.specs.Sets.{picture_block}
use Rattle.picture_sets.proofs.Bands.{start_of, before_more, before_all, hold_at}
use Rattle.picture_blocks.specs.Blocks.{no_code, IsCodedTo}
use Rattle.picture_blocks.proofs.starting.start_bands.Goals as goal

pub loop-place-preserved : goal.loop-place-preserved
loop-place-preserved c = λ q are.
    let shape = c.args.sets.now.shape in
    hold_at (λ b x y s. IsCodedTo 15 (picture_block shape q b x y) s) no_code shape c.start_band.new.blocks _ _
    (before_more shape c.band_at.result c.loop-place.place _ c.band_at.ensures.picture c.band_at.ensures.place
    (start_of shape c.args.starts.now c.band_at.result c.loop-place.place c.band_at.ensures.place (c.requires.starts c.band_at.result c.band_at.ensures.picture)))
    (c.start_band.ensures q are)

pub returns : goal.returns
returns c = λ q are.
    let shape = c.args.sets.now.shape in
    hold_at (λ b x y s. IsCodedTo 15 (picture_block shape q b x y) s) no_code shape c.loop-place.blocks _ _
    (before_all shape c.loop-place.place (omega (arith, c.loop-place-test.false))) (c.loop-place.invariant q are)
