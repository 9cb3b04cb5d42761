use Rattle.std.proofs.Common.{ℕ, ◌+◌, ◌*◌, refl, arith, ap, length, take, Bool, [], ◌∷◌, ◌++◌, ◌∙◌}
use Rattle.std.specs.Int.{from_bool}
use Rattle.block_words.proofs.Steps.{other_way, sign-small}
use Rattle.block_passes.proofs.States.{told-sign_told, code-fits}
use Rattle.block_passes.proofs.sample.code_sign.Goals as goal

pub returns-clause-told : goal.returns-clause-told
returns-clause-told c = λ b p v is h some.
    let flips = c.sign_context-context.result.1 in
    let negative = c.is_negative-negative.result in
    let old = take c.args.state.now.count c.args.state.now.decisions in
    let list =
    c.push.ensures.list
    ∙ (ap (λ (n : ℕ). old ++ (2 * c.sign_context-context.result.0 + n) ∷ []) c.from.ensures
    ∙ ap (λ (bit : Bool). old ++ (2 * c.sign_context-context.result.0 + from_bool bit) ∷ []) (other_way flips negative)) in
    told-sign_told b (omega arith) (omega arith) c.args.w c.args.i c.requires.w c.requires.i some
    c.args.state.now c.push.new.self _ v c.sign_context-context.result.0 flips negative
    (omega (arith, ap length c.push.ensures.words)) (omega (arith, ap length c.push.ensures.significant)) is.whole
    (rw (← c.place_of-place.ensures) c.sign_context-context.ensures.context)
    (rw (← c.place_of-place.ensures) c.sign_context-context.ensures.flips) (c.is_negative-negative.ensures b p is some)
    c.push.ensures.words c.push.ensures.significant c.push.ensures.visited list
    (rw (← c.place_of-place.ensures, ← c.from-2.ensures) c.mark.ensures) refl refl refl refl h

pub overflow_mul-context : goal.overflow_mul-context
overflow_mul-context c = omega (arith, sign-small _ _ _ c.sign_context-context.ensures.context)

pub overflow_add-context : goal.overflow_add-context
overflow_add-context c =
    omega (arith, code-fits _ _ _ (sign-small _ _ _ c.sign_context-context.ensures.context) c.from.ensures)
