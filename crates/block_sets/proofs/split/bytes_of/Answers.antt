use Rattle.std.proofs.Common.{◌≡◌, ℕ, ◌+◌, ◌*◌, ◌/◌, ◌%◌, get_or, sym, ap, ◌∙◌, arith, inl, inr}
use Rattle.std.proofs.lemmas.Bool.{cases_eq}
use Rattle.block_sets.specs.Places.{column_at}
use Rattle.block_sets.specs.Squares.{word_at}
use Rattle.block_sets.proofs.split.bytes_of.Goals as goal

pub loop-column-preserved : goal.loop-column-preserved
loop-column-preserved c =
    let w = c.args.w in
    let k = c.loop-column.column in
    let square = c.args.square.now in
    let word = λ (i : ℕ) (here : i / 4 ≡ k).
    c.column_of-words.ensures (i % 4) (omega arith)
    ∙ (let x : w % 2 * 16 + k ≡ column_at w i = omega arith in ap (λ (m : ℕ). word_at square m (w / 2 * 4 + i % 4)) x) in
    record {
      low = λ i p q. elim (cases_eq (i / 4) k) [
        | inl e ↦
            let place : 4 * k + i % 4 ≡ i = omega arith in
            ap (λ (m : ℕ). get_or c.put_column.new.bytes m 0) (sym place)
            ∙ (c.put_column.ensures.here (i % 4) (omega arith)
            ∙ (c.low_bytes.ensures (i % 4) (omega arith) ∙ ap (λ (m : ℕ). m % 256) (word i e)))
        | inr ne ↦ c.put_column.ensures.others i ne ∙ c.loop-column.invariant.low i p (omega arith)
      ];
      high = λ i p q. elim (cases_eq (i / 4) k) [
        | inl e ↦
            let place : 4 * k + i % 4 ≡ i = omega arith in
            ap (λ (m : ℕ). get_or c.put_column-in-loop-column.new.bytes m 0) (sym place)
            ∙ (c.put_column-in-loop-column.ensures.here (i % 4) (omega arith)
            ∙ (c.high_bytes.ensures.bytes (i % 4) (omega arith) ∙ ap (λ (m : ℕ). m / 256) (word i e)))
        | inr ne ↦ c.put_column-in-loop-column.ensures.others i ne ∙ c.loop-column.invariant.high i p (omega arith)
      ];
      fits = λ i p q. elim (cases_eq (i / 4) k) [
        | inl e ↦ omega (arith, word i e, c.high_bytes.ensures.fits (i % 4) (omega arith))
        | inr ne ↦ c.loop-column.invariant.fits i p (omega arith)
      ];
    }
