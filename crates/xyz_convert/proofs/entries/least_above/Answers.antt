use Rattle.std.proofs.Common.{◌≡◌, ◌+◌, ◌*◌, ◌/◌, ◌^◌, ap, ◌∙◌, arith, max}
use Rattle.codec_terms.specs.Colour.{fifths}
use Rattle.xyz_convert.specs.Entries.{least_above, power_of}
use Rattle.xyz_convert.proofs.Codes.{power_of-small}
use Rattle.xyz_convert.proofs.entries.least_above.Goals as goal

pub overflow_cast-result : goal.overflow_cast-result
unfolding power_of
overflow_cast-result c =
    let power : c.fifths-power.result ≡ power_of (c.args.y + 1) = c.fifths-power.ensures ∙ ap (λ y. fifths 13 (y * 2 ^ 24 / 4095)) c.from.ensures in
    omega (arith, power_of-small (c.args.y + 1) (omega arith))

pub returns : goal.returns
unfolding least_above power_of
returns c =
    let power : c.fifths-power.result ≡ power_of (c.args.y + 1) = c.fifths-power.ensures ∙ ap (λ y. fifths 13 (y * 2 ^ 24 / 4095)) c.from.ensures in
    ap (λ m. (m * 52370 + 47999) / 48000) (let greater : c.from-2.result ≡ max 1 (power_of (c.args.y + 1)) = omega arith in greater)
