use Rattle.std.proofs.Common.{◌≡◌, arith, ℤ, pos, ◌+ℤ◌, ◌*ℤ◌, w32, to_z, of_z}
use Rattle.std.proofs.lemmas.Int.{ints}
use Rattle.codec_terms.specs.Wavelet.{shifted}
use Rattle.dwt97.proofs.Shifts.{eighth}
use Rattle.dwt97.proofs.component.luma_of.Goals as goal

abbrev as_stored : ℤ → ℤ
as_stored v = to_z w32 (of_z w32 v)

pub returns : goal.returns
returns c =
    let two : as_stored (as_stored (as_stored c.level_shifted.result *ℤ pos 19595) +ℤ as_stored (as_stored c.level_shifted-2.result *ℤ pos 38470))
    ≡ pos 19595 *ℤ shifted c.args.x +ℤ pos 38470 *ℤ shifted c.args.y = omega (arith, ints) in
    eighth _ _ (omega (arith, ints)) (omega (arith, ints))
