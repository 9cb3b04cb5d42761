use Rattle.std.proofs.Common.{sym, ap, ◌∙◌}
use Rattle.std.specs.Int.{bit_at}
use Rattle.std.proofs.lemmas.Nat.Bits.{bit_at-zero}
use Rattle.block_sets.proofs.Bits.{zeros-at}
use Rattle.block_sets.proofs.transposed.planes_of.Goals as goal

pub returns-then-are_zero : goal.returns-then-are_zero
returns-then-are_zero c = λ p i q r.
    ap (λ n. bit_at n i) (zeros-at 8 p) ∙ (bit_at-zero i ∙ sym (c.are_zero.ensures c.if-are_zero.true i p r q))
