use Rattle.std.proofs.Common.{◌+◌, ◌/◌, ◌^◌, ◌<◌, ℕ, false, true, refl, sym, ◌∙◌, arith, get_or}
use Rattle.std.specs.Int.RustNames.{bit_and}
use Rattle.codec_terms.specs.BlockDecisions.{plane_bit}
use Rattle.block_sets.specs.Places.{column_at, row_at}
use Rattle.block_passes.proofs.Candidates.{one-is, zero-is}
use Rattle.block_passes.proofs.Cleaned.{bit-row}
use Rattle.block_passes.proofs.Masks.{four-none, four-within, four-one, four-zeros, position-none, position-some}
use Rattle.block_passes.proofs.cleanup.first_one.Goals as goal

pub returns-then-four-eq0-clause-first : goal.returns-then-four-eq0-clause-first
returns-then-four-eq0-clause-first c = λ b p is four.
    let w = c.args.w in
    let i = c.args.i in
    let bits = get_or c.args.plane.now.bits.now w 0 in
    position-none (plane_bit b p (column_at w i)) (row_at w i)
    (λ r q. bit-row b p w i r (row_at w i + r) false c.requires.column q refl (sym (zero-is _ (sym (four-none bits i c.if-four-eq0.true r q) ∙ is.bits w (i + r) c.requires.w (omega arith) (four r q)))))

pub returns-else-four-eq0-clause-first : goal.returns-else-four-eq0-clause-first
returns-else-four-eq0-clause-first c = λ b p is four.
    let w = c.args.w in
    let i = c.args.i in
    let bits = get_or c.args.plane.now.bits.now w 0 in
    let some : 0 < bit_and (bits / 2 ^ i) 15 = omega (arith, c.if-four-eq0.false) in
    let within = four-within bits i some in
    let same = λ (r : ℕ) (q : r < 4). is.bits w (i + r) c.requires.w (omega arith) (four r q) in
    position-some (plane_bit b p (column_at w i)) (row_at w i) _ within
    (bit-row b p w i _ (row_at w i + _) true c.requires.column within refl (sym (one-is _ (sym (four-one bits i some) ∙ same _ within))))
    (λ r q. bit-row b p w i r (row_at w i + r) false c.requires.column (omega (arith, within)) refl (sym (zero-is _ (sym (four-zeros bits i some r q) ∙ same r (omega (arith, within))))))

pub returns-else-four-eq0-clause-within : goal.returns-else-four-eq0-clause-within
returns-else-four-eq0-clause-within c =
    four-within (get_or c.args.plane.now.bits.now c.args.w 0) c.args.i (omega (arith, c.if-four-eq0.false))
