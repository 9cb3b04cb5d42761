use Rattle.std.proofs.Common.{◌≡◌, ℕ, ◌+◌, ◌*◌, ◌/◌, ◌%◌, ◌<◌, length, get_or, sym, ap, ◌∙◌, arith, inl, inr, get_or-set_same, get_or-set_other, length-set}
use Rattle.std.specs.Int.{bit_at}
use Rattle.std.proofs.lemmas.Bool.{cases_eq}
use Rattle.block_sets.proofs.transposed.turned_planes.Goals as goal

pub loop-p-preserved : goal.loop-p-preserved
loop-p-preserved c = record {
  size = length-set c.loop-p.planes c.loop-p.p c.square_at.result ∙ c.loop-p.invariant.size;
  bits = λ p i q r. elim (cases_eq p c.loop-p.p) [
    | inl e ↦
        let lt : c.loop-p.p < length c.loop-p.planes = omega arith in
        let place : i / 8 * 8 + i % 8 ≡ i = omega arith in
        let turned : 8 * (i / 8) + i % 8 ≡ i = omega arith in
        rw (e, get_or-set_same) (ap (λ (k : ℕ). bit_at c.square_at.result k) (sym place)
        ∙ (c.square_at.ensures (i / 8) (i % 8) (omega arith) (omega arith)
        ∙ (ap (λ (n : ℕ). bit_at n (i % 8)) (c.gather_all.ensures c.loop-p.p (i / 8) (omega arith) (omega arith))
        ∙ (c.turn_squares.ensures (i / 8) c.loop-p.p (i % 8) (omega arith) (omega arith) (omega arith)
        ∙ ap (λ (k : ℕ). bit_at (get_or c.args.bytes.now k 0) c.loop-p.p) turned))))
    | inr ne ↦ rw get_or-set_other (c.loop-p.invariant.bits p i (omega arith) r)
  ];
}
