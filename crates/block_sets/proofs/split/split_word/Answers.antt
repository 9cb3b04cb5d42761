use Rattle.std.proofs.Common.{◌≡◌, ℕ, ◌+◌, ◌-◌, [], get_or, sym, ap, ◌∙◌, arith, inl, inr}
use Rattle.std.specs.Int.{bit_at}
use Rattle.std.proofs.lemmas.Bool.{cases_lt}
use Rattle.block_sets.specs.Places.{column_at, row_at}
use Rattle.block_sets.specs.Squares.{word_at}
use Rattle.block_sets.proofs.Bits.{bit_at_mod, bit_at_shr}
use Rattle.block_sets.proofs.split.split_word.Goals as goal

pub returns-clause-bits : goal.returns-clause-bits
returns-clause-bits c = λ p i q r.
    let word = word_at c.args.square.now (column_at c.args.w i) (row_at c.args.w i) in
    elim (cases_lt p 8) [
      | inl lower ↦
          ap (λ (n : ℕ). bit_at n i) (c.put_words.ensures.lower p lower)
          ∙ (c.planes_of.ensures p i lower r ∙ (ap (λ (n : ℕ). bit_at n p) (c.bytes_of.ensures.low i r) ∙ bit_at_mod word 8 p lower))
      | inr upper ↦
          let back : 8 + (p - 8) ≡ p = omega arith in
          ap (λ (k : ℕ). bit_at (get_or (get_or c.put_words.new.sets k []) c.args.w 0) i) (sym back)
          ∙ (ap (λ (n : ℕ). bit_at n i) (c.put_words.ensures.upper (p - 8) (omega arith))
          ∙ (c.planes_of-2.ensures (p - 8) i (omega arith) r
          ∙ (ap (λ (n : ℕ). bit_at n (p - 8)) (c.bytes_of.ensures.high i r)
          ∙ (bit_at_shr word 8 (p - 8) ∙ ap (λ (k : ℕ). bit_at word k) back))))
    ]
