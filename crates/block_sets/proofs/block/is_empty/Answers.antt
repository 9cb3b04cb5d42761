use Rattle.std.proofs.Common.{ℕ, ◌<◌, get_or, arith, rules}
use Rattle.std.specs.Int.{w64, trailing_zeros}
use Rattle.std.proofs.lemmas.Nat.Bits.{bit_at-trailing_zeros}
use Rattle.block_sets.proofs.block.is_empty.Goals as goal

pub returns-then-set-w-ne0-clause-some : goal.returns-then-set-w-ne0-clause-some
returns-then-set-w-ne0-clause-some c = λ e.
    let word = get_or c.args.set.now c.loop-w.w 0 in
    let fits : (k : ℕ) → get_or c.args.set.now k 0 < 18446744073709551616 = search rules in
    let lowest = bit_at-trailing_zeros w64 word (omega (arith, c.if-set-w-ne0.true)) (fits c.loop-w.w) in
    record { word = c.loop-w.w; at = trailing_zeros w64 word; inside = omega arith; small = lowest.0; bit = lowest.1 }
