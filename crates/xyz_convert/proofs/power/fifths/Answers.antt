use Rattle.std.proofs.Common.{◌≡◌, ◌*◌, ◌/◌, ◌^◌, ◌%◌, refl, sym, ap, ◌∙◌, arith}
use Rattle.codec_terms.specs.Colour.{fifth_root}
use Rattle.xyz_convert.proofs.Roots.{radicand, radicand-11, radicand-12, radicand-13}
use Rattle.xyz_convert.proofs.power.fifths.Goals as goal
use Rattle.xyz_convert.proofs.power.fifths.Goals.{in-11, in-12, in_default}

pub returns : goal.returns
returns c =
    let wide = c.from-wide.ensures in
    let base = c.args.base in
    let of_power : c.match-power.radicand ≡ radicand c.args.power base =
    elim c.match-power.branch [
      | in-11 w ↦ w.radicand-is ∙ ap (λ g. g * 2 ^ 96 % 2 ^ 128) wide ∙ radicand-11 base c.requires.narrow ∙ ap (λ p. radicand p base) (sym w.in-11.is)
      | in-12 w ↦ w.radicand-is ∙ ap (λ g. g * g * 2 ^ 72 % 2 ^ 128) wide ∙ radicand-12 base c.requires.narrow ∙ ap (λ p. radicand p base) (sym w.in-12.is)
      | in_default w ↦ w.radicand-is ∙ ap (λ g. g * g * g * 2 ^ 48 % 2 ^ 128) wide ∙ radicand-13 base c.requires.narrow ∙ ap (λ p. radicand p base) (let last : 13 ≡ c.args.power = omega arith in last)
    ] in
    let square : c.from.result * c.from-2.result ≡ base * base = rw (c.from.ensures, c.from-2.ensures) refl in
    let root : c.from-3.result ≡ fifth_root (radicand c.args.power base) = c.from-3.ensures ∙ c.fifth_root.ensures.root ∙ ap fifth_root of_power in
    ap (λ s. s / 2 ^ 24 * c.from-3.result / 2 ^ 24) square ∙ ap (λ r. base * base / 2 ^ 24 * r / 2 ^ 24) root
