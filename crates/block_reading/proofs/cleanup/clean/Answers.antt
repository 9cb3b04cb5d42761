use Rattle.std.proofs.Common.{sym, ◌∙◌}
use Rattle.std.proofs.lemmas.Bool.{eq-eqb, ne_eqb}
use Rattle.std.proofs.lemmas.Nat.Bits.{shr_and_one}
use Rattle.block_passes.proofs.Bits.{tested}
use Rattle.block_reading.specs.Known.{area_of}
use Rattle.block_reading.proofs.Cleaned.{clean-some, clean-none, left-sample, left-unread}
use Rattle.block_reading.proofs.cleanup.clean.Goals as goal

pub returns-then-is_left : goal.returns-then-is_left
returns-then-is_left c = λ k h.
    let a = area_of c.args.field.now in
    let p = c.args.field.now.plane in
    let left = sym (tested _ _ (shr_and_one c.left_in.result c.args.i ∙ c.left_in.ensures k h.room c.args.i c.requires.i)) ∙ eq-eqb _ 1 c.if-is_left.true in
    rw (clean-some a p c.args.w k c.args.i left) (c.read_zero_bit.ensures.told k h (left-sample a p c.args.w k c.args.i left) (left-unread a p c.args.w k c.args.i left))

pub returns-else-is_left : goal.returns-else-is_left
returns-else-is_left c = λ k h.
    let a = area_of c.args.field.now in
    let p = c.args.field.now.plane in
    let left = sym (tested _ _ (shr_and_one c.left_in.result c.args.i ∙ c.left_in.ensures k h.room c.args.i c.requires.i)) ∙ ne_eqb _ 1 c.if-is_left.false in
    rw (clean-none a p c.args.w k c.args.i left) h
