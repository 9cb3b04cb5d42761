use Rattle.std.proofs.Common.{◌≡◌, ap, ◌∙◌, ◌^◌, ◌≤◌, ◌/◌, ◌*◌, arith, unsigned_abs}
use Rattle.std.proofs.Math.Nat.{div-div-eq-div-mul}
use Rattle.std.proofs.lemmas.Int.{to_z-of_z}
use Rattle.codec_terms.specs.Quantiser.{with_sign_of}
use Rattle.quantiser.proofs.Steps.{shifted_within}
use Rattle.quantiser.proofs.parts.in_ninths.Goals as goal

pub ninth-requires : goal.ninth-requires
ninth-requires c =
    let abs : c.unsigned_abs.result ≡ unsigned_abs c.args.sample = c.unsigned_abs.ensures.value ∙ ap unsigned_abs (to_z-of_z _ _ c.ranges.sample) in
    shifted_within _ 10 _ 16 (omega arith) (omega arith)

pub with_sign-requires : goal.with_sign-requires
with_sign-requires c =
    let abs : c.unsigned_abs.result ≡ unsigned_abs c.args.sample = c.unsigned_abs.ensures.value ∙ ap unsigned_abs (to_z-of_z _ _ c.ranges.sample) in
    let within : c.unsigned_abs.result / 2 ^ c.args.shift ≤ 2 ^ 16 = shifted_within _ 10 _ 16 (omega arith) (omega arith) in
    omega arith

pub returns : goal.returns
returns c =
    let abs : c.unsigned_abs.result ≡ unsigned_abs c.args.sample = c.unsigned_abs.ensures.value ∙ ap unsigned_abs (to_z-of_z _ _ c.ranges.sample) in
    c.with_sign.ensures
    ∙ (ap (λ v. with_sign_of v c.ninth.result) (to_z-of_z _ _ c.ranges.sample)
    ∙ ap (with_sign_of c.args.sample) (c.ninth.ensures ∙ (div-div-eq-div-mul _ _ 9 ∙ ap (λ n. n / (2 ^ c.args.shift * 9)) abs)))
