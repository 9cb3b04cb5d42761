use Rattle.std.proofs.Common.{◌<◌, refl, arith, true, false}
use Rattle.codec_terms.specs.BlockDecisions.{zero_context_of}
use Rattle.block_words.proofs.Steps.{bit_told-is}
use Rattle.block_sets.specs.Places.{column_at, row_at}
use Rattle.block_passes.proofs.sample.code_bit.Goals as goal

pub returns-then-bit-clause-told : goal.returns-then-bit-clause-told
returns-then-bit-clause-told c = λ b p v is h some.
    let x = column_at c.args.w c.args.i in
    let y = row_at c.args.w c.args.i in
    let zero = c.zero_code-zero.ensures.told b p v is h some in
    let small : zero_context_of b v x y < 19 = omega (arith, zero, c.zero_code-zero.ensures.small) in
    let same = bit_told-is b p x y v (zero_context_of b v x y) true refl (rw (← c.if-bit.true) (c.bit.ensures b p is some)) in
    rw same (c.code_sign.ensures.told b p _ is (c.code.ensures.told b v (zero_context_of b v x y) true h small (omega (arith, zero))) some)

pub returns-else-bit-clause-told : goal.returns-else-bit-clause-told
returns-else-bit-clause-told c = λ b p v is h some.
    let x = column_at c.args.w c.args.i in
    let y = row_at c.args.w c.args.i in
    let zero = c.zero_code-zero.ensures.told b p v is h some in
    let small : zero_context_of b v x y < 19 = omega (arith, zero, c.zero_code-zero.ensures.small) in
    let same = bit_told-is b p x y v (zero_context_of b v x y) false refl (rw (← c.if-bit.false) (c.bit.ensures b p is some)) in
    rw same (c.code-else-bit.ensures.told b v (zero_context_of b v x y) false h small (omega (arith, zero)))
