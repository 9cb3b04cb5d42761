use Rattle.std.proofs.Common.{ℕ, ◌+◌, max, [], get_or, sym, ap, ◌∙◌, arith}
use Rattle.std.specs.Int.{bit_at}
use Rattle.std.proofs.lemmas.Nat.Bits.{bit_at_or, bit_at-zero}
use Rattle.block_sets.specs.Squares.{has_any}
use Rattle.block_sets.proofs.Bits.{zeros-at}
use Rattle.block_sets.proofs.Blocks.{has_any-more}
use Rattle.block_sets.proofs.block.unite_lower.Goals as goal

pub loop-p-init : goal.loop-p-init
unfolding has_any
loop-p-init c = λ w i p q. ap (λ (n : ℕ). bit_at n i) (zeros-at 16 w) ∙ bit_at-zero i

pub loop-p-preserved : goal.loop-p-preserved
loop-p-preserved c = λ w i p q.
    ap (λ (n : ℕ). bit_at n i) (c.unite.ensures w p)
    ∙ (bit_at_or (get_or c.loop-p.some w 0) (get_or (get_or c.args.sets.now c.loop-p.p []) w 0) i
    ∙ (ap (λ (m : ℕ). max m (bit_at (get_or (get_or c.args.sets.now c.loop-p.p []) w 0) i)) (c.loop-p.invariant w i p q)
    ∙ sym (has_any-more c.args.sets.now c.loop-p.p (c.loop-p.p + 1) w i (omega arith))))
