use Rattle.std.proofs.Common.{rules, ◌∙◌, ap, ℤ, pos}
use Rattle.std.specs.Int.{w32, int_wrap}
use Rattle.std.proofs.lemmas.Int.{to_z-of_z, int_wrap_fits}
use Rattle.codec_terms.specs.Wavelet.{scaled}
use Rattle.dwt97.proofs.scaling.low.Goals as goal

pub returns : goal.returns
returns c = λ fits.
    to_z-of_z w32 _ (search rules)
    ∙ (c.part.ensures ∙ (ap (λ (v : ℤ). int_wrap w32 (scaled (pos 53274) v)) (to_z-of_z w32 c.args.sample c.ranges.sample) ∙ int_wrap_fits w32 _ fits))
