use Rattle.std.proofs.Common.{arith}
use Rattle.quantiser.specs.Signed.{signed_values}
use Rattle.picture_sets.specs.Blocks.{IsSplit, no_sets}
use Rattle.picture_sets.specs.Sets.{picture_block}
use Rattle.picture_sets.proofs.Bands.{start_of, before_more, before_all, hold_at}
use Rattle.picture_sets.proofs.split.fill_bands.Goals as goal

pub loop-place-preserved : goal.loop-place-preserved
loop-place-preserved c =
    hold_at (λ b x y s. IsSplit (picture_block c.args.shape (signed_values c.args.words.now) b x y) s) no_sets c.args.shape c.fill_band.new.sets _ _
    (before_more c.args.shape c.band_at.result c.loop-place.place _ c.band_at.ensures.picture c.band_at.ensures.place (start_of c.args.shape c.args.starts.now c.band_at.result c.loop-place.place c.band_at.ensures.place (c.requires.starts c.band_at.result c.band_at.ensures.picture)))
    c.fill_band.ensures

pub returns : goal.returns
returns c =
    hold_at (λ b x y s. IsSplit (picture_block c.args.shape (signed_values c.args.words.now) b x y) s) no_sets c.args.shape c.loop-place.sets _ _
    (before_all c.args.shape c.loop-place.place (omega (arith, c.loop-place-test.false))) c.loop-place.invariant
