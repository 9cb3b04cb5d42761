use Rattle.std.proofs.Common.{ℕ, ◌<◌, min, [], length, get_or, ap, ◌∙◌, arith, get_or-set_same}
use Rattle.std.specs.Int.{bit_at}
use Rattle.std.proofs.lemmas.Nat.Bits.{bit_at_and}
use Rattle.block_sets.proofs.block.drop_signs_of_zeros.Goals as goal

pub returns-clause-signs : goal.returns-clause-signs
returns-clause-signs c = λ w i p q.
    let lt : 15 < length c.args.sets.now = omega arith in
    rw get_or-set_same (ap (λ (n : ℕ). bit_at n i) (c.keep.ensures w p)
    ∙ (bit_at_and (get_or (get_or c.args.sets.now 15 []) w 0) (get_or c.unite_lower.new.some w 0) i
    ∙ ap (λ (m : ℕ). min (bit_at (get_or (get_or c.args.sets.now 15 []) w 0) i) m) (c.unite_lower.ensures w i p q)))
