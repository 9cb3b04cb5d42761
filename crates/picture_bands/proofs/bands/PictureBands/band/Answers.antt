use Rattle.std.proofs.Common.{arith, subst, ◌≡◌, ◌+◌, ◌-◌, take, drop}
use Rattle.codec_terms.specs.Bands.{band_values}
use Rattle.quantiser.specs.Signed.{signed_values}
use Rattle.picture_bands.specs.Words.{PictureWords}
use Rattle.picture_bands.proofs.Components.{band_words}
use Rattle.picture_bands.proofs.bands.PictureBands.band.Goals as goal

pub returns-clause-values : goal.returns-clause-values
returns-clause-values c =
    subst (λ (held : PictureWords). signed_values (take (c.band_start-start.result + c.band_length.result - c.band_start-start.result) (drop c.band_start-start.result c.deref.result.now))
    ≡ band_values held.shape (signed_values held.words) c.args.band) c.self.view_is
    (band_words c.self.inside.shape c.args.band c.self.inside.words.items _ _ _ c.deref.ensures.value c.band_start-start.ensures.start (omega (arith, c.band_length.ensures)))
