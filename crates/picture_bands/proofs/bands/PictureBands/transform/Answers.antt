use Rattle.std.proofs.Common.{arith, subst, ◌≡◌, ◌++◌, length, take, drop}
use Rattle.codec_terms.specs.Encode.{coefficients}
use Rattle.quantiser.specs.Signed.{signed_values}
use Rattle.picture_bands.specs.Words.{PictureWords}
use Rattle.picture_bands.proofs.Components.{held_coefficients, three_clamped}
use Rattle.picture_bands.proofs.bands.PictureBands.transform.Goals as goal

pub returns-clause-words : goal.returns-clause-words
returns-clause-words c =
    subst (λ (held : PictureWords). signed_values (take c.self.inside.words.len (c.take_apart.new.words ++ drop (length c.take_apart.new.words) c.self.inside.words.items))
    ≡ coefficients held.shape held.power c.args.raw.now) c.self.view_is
    (held_coefficients c.self.inside.shape c.self.inside.tables c.args.raw.now _ _ _ _ (omega arith) c.take_apart.ensures c.fill_planes.ensures.planes)

pub take_apart-requires-clause-luma_clamped : goal.take_apart-requires-clause-luma_clamped
take_apart-requires-clause-luma_clamped c = (three_clamped _ _ _ c.fill_planes.ensures.within).first

pub take_apart-requires-clause-blue_clamped : goal.take_apart-requires-clause-blue_clamped
take_apart-requires-clause-blue_clamped c = (three_clamped _ _ _ c.fill_planes.ensures.within).second

pub take_apart-requires-clause-red_clamped : goal.take_apart-requires-clause-red_clamped
take_apart-requires-clause-red_clamped c = (three_clamped _ _ _ c.fill_planes.ensures.within).third
