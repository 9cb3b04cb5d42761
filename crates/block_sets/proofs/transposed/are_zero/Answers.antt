use Rattle.std.proofs.Common.{◌≡◌, ℕ, ◌+◌, ◌*◌, ◌/◌, ◌%◌, get_or, ap, arith, rules, inl, inr}
use Rattle.std.specs.Int.{bit_at}
use Rattle.std.proofs.lemmas.Bool.{cases_eq}
use Rattle.std.proofs.lemmas.Nat.Bits.{bit_at_or, bit_at-zero}
use Rattle.block_sets.proofs.transposed.are_zero.Goals as goal

pub loop-group-preserved : goal.loop-group-preserved
loop-group-preserved c = λ group j p q r s.
    let more = bit_at_or c.loop-group.some c.square_at-some.result (j * 8 + p) in
    elim (cases_eq group c.loop-group.group) [
      | inl e ↦ rw e (let here = c.square_at-some.ensures j p r s in omega (arith, here, more))
      | inr ne ↦ let before = c.loop-group.invariant group j p (omega arith) r s in omega (arith, before, more)
    ]

pub returns : goal.returns
returns c = λ zero i p q r.
    let none : c.loop-group.some ≡ 0 = search rules in
    let place : 8 * (i / 8) + i % 8 ≡ i = omega arith in
    let below = c.loop-group.invariant (i / 8) (i % 8) p (omega arith) (omega arith) r in
    let at : bit_at c.loop-group.some (i % 8 * 8 + p) ≡ 0 = rw none (bit_at-zero (i % 8 * 8 + p)) in
    let same = ap (λ (k : ℕ). bit_at (get_or c.args.bytes.now k 0) p) place in
    omega (arith, below, at, same)
