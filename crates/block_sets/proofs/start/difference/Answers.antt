use Rattle.std.proofs.Common.{ℕ, ◌-◌, min, ap, ◌∙◌, arith}
use Rattle.std.specs.Int.{bit_at, w64}
use Rattle.std.proofs.lemmas.Nat.Bits.{bit_at_and, bit_at_not}
use Rattle.block_sets.proofs.start.difference.Goals as goal

pub returns : goal.returns
returns c = λ i p.
    bit_at_and c.args.word (18446744073709551615 - c.args.other) i
    ∙ ap (λ (m : ℕ). min (bit_at c.args.word i) m) (bit_at_not w64 c.args.other i (omega arith) p)
