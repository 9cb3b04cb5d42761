use Rattle.std.proofs.Common.{◌∙◌}
use Rattle.block_sets.specs.Places.{column_at, row_at}
use Rattle.block_reading.specs.Known.{area_of}
use Rattle.block_reading.proofs.Cells.{behind-significant, zero_bit-is}
use Rattle.block_reading.proofs.sample.read_zero_bit.Goals as goal

pub returns-then-bit-clause-told : goal.returns-then-bit-clause-told
returns-then-bit-clause-told c = λ k h some none.
    let a = area_of c.args.field.now in
    let x = column_at c.args.w c.args.i in
    let y = row_at c.args.w c.args.i in
    let context = c.zero_context_at-context.result in
    let same = zero_bit-is a c.args.field.now.plane x y k context c.read_bit-bit.result (c.zero_context_at-context.ensures.told k h.room some) (c.read_bit-bit.ensures.bit k h) in
    rw (same, c.if-bit.true) (c.read_sign.ensures _ (c.read_bit-bit.ensures.told k h) some (behind-significant a k context x y ∙ none))

pub returns-else-bit-clause-told : goal.returns-else-bit-clause-told
returns-else-bit-clause-told c = λ k h some none.
    let a = area_of c.args.field.now in
    let x = column_at c.args.w c.args.i in
    let y = row_at c.args.w c.args.i in
    let context = c.zero_context_at-context.result in
    let same = zero_bit-is a c.args.field.now.plane x y k context c.read_bit-bit.result (c.zero_context_at-context.ensures.told k h.room some) (c.read_bit-bit.ensures.bit k h) in
    rw (same, c.if-bit.false) (c.read_bit-bit.ensures.told k h)

pub returns-then-bit-clause-bit : goal.returns-then-bit-clause-bit
returns-then-bit-clause-bit c = λ k h some. rw (← (c.zero_context_at-context.ensures.told k h.room some)) (c.read_bit-bit.ensures.bit k h)

pub returns-else-bit-clause-bit : goal.returns-else-bit-clause-bit
returns-else-bit-clause-bit c = λ k h some. rw (← (c.zero_context_at-context.ensures.told k h.room some)) (c.read_bit-bit.ensures.bit k h)
