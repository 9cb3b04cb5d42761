-- What the steps of a sample keep true of the state.
use Rattle.std.proofs.Common.{◌≡◌, ℕ, ◌+◌, ◌*◌, ◌%◌, ◌^◌, ◌<◌, ◌≤◌, refl, sym, ap, ◌∙◌, arith, Bool, true, false, List, [], ◌∷◌, ◌++◌, length, take, fold, get_or, set}
use Rattle.std.specs.Int.{from_bool, is_negative}
use Rattle.std.specs.Int.RustNames.{bit_or}
use Rattle.std.proofs.lemmas.Nat.{mul-add-lt}
use Rattle.std.proofs.lemmas.List.{length-set, map-append}
use Rattle.std.proofs.lemmas.List.Elements.{All-push}
use Rattle.codec_terms.specs.Mq.{Decision}
use Rattle.codec_terms.specs.Contexts.{with_sample, SignContext, sign_context, sign_context_at, flipped_if}
use Rattle.codec_terms.specs.BlockDecisions.{Block, Walk, value_at, negatives, with_decision, sign_told, visited_at}
use Rattle.block_contexts.specs.Words.{horizontal_sign_of, vertical_sign_of}
use Rattle.block_words.specs.Words.{place_of, IsWord, marked, marks}
use Rattle.block_words.specs.Told.{decision_of}
use Rattle.block_words.proofs.Marks.{marked-negative, marked-positive}
use Rattle.block_words.proofs.Steps.{decision_of-code, code-small, sign-small, sign_context-word, negatives-at}
use Rattle.block_sets.specs.Places.{column_at, row_at}
use Rattle.block_passes.specs.declared.state.PassState.{PassState}
use Rattle.block_passes.specs.Scan.{has_sample}
use Rattle.block_passes.specs.Told.{HasTold, HasWords}
use Rattle.block_passes.proofs.Bits.{sample-column, sample-row, bits-more}

pub code-fits : (context n : ℕ) (bit : Bool) → context < 19 → n ≡ from_bool bit → 2 * context + n < 256
code-fits context n bit small e = rw e (omega (arith, code-small context bit small))

-- a decision more
pub told-with_decision : (b : Block) (s t : PassState) (v : Walk) (context : ℕ) (bit : Bool) → context < 19
    → t.words ≡ s.words → t.significant ≡ s.significant → t.visited ≡ s.visited
    → take t.count t.decisions ≡ take s.count s.decisions ++ (2 * context + from_bool bit) ∷ []
    → HasTold b s v → HasTold b t (with_decision context bit v)
unfolding with_decision
told-with_decision b s t v context bit small e f g more h = record {
  sets = record {
    significant_size = h.sets.significant_size;
    visited_size = h.sets.visited_size;
    words = λ x y wide high. rw e (h.sets.words x y wide high);
    significant = λ w i inside low. rw f (h.sets.significant w i inside low);
    visited = λ w i inside low. rw g (h.sets.visited w i inside low);
  };
  list = rw (more, map-append decision_of (take s.count s.decisions) ((2 * context + from_bool bit) ∷ []), h.list) (ap (λ (d : Decision). v.decisions ++ d ∷ []) (decision_of-code context bit));
  contexts = rw more (All-push (λ (code : ℕ). code < 38) (take s.count s.decisions) (2 * context + from_bool bit) h.contexts (code-small context bit small));
}

module _ (b : Block) (w i : ℕ) (inside : w < 16) (small : i < 64) (some : has_sample b w i ≡ true) where
  pub told-visited_at : (s t : PassState) (v : Walk) → length s.visited ≡ 16 → t.words ≡ s.words → t.significant ≡ s.significant
      → t.visited ≡ set s.visited w (bit_or (get_or s.visited w 0) (1 * 2 ^ i % 18446744073709551616))
      → t.count ≡ s.count → t.decisions ≡ s.decisions
      → HasTold b s v → HasTold b t (visited_at b (column_at w i) (row_at w i) v)
  unfolding visited_at
  told-visited_at s t v size e f g k l h = record {
    sets = record {
      significant_size = h.sets.significant_size;
      visited_size = length-set v.visited (row_at w i * b.width + column_at w i) true ∙ h.sets.visited_size;
      words = λ x y wide high. rw e (h.sets.words x y wide high);
      significant = λ w' i' p q. rw f (h.sets.significant w' i' p q);
      visited = λ w' i' p q. rw g (bits-more b w i some v.visited s.visited inside small size h.sets.visited_size h.sets.visited w' i' p q);
    };
    list = rw (k, l) h.list;
    contexts = rw (k, l) h.contexts;
  }

-- ---- a sample becomes significant

module _ (b : Block) (narrow : b.width ≤ 32) (low : b.height ≤ 32) (x y : ℕ) (wide : x < b.width) (high : y < b.height) where
  pub words-marked : length b.values ≡ b.width * b.height → (words : List ℕ) (samples : List Bool) (negative : Bool) → length words ≡ 1156
      → negative ≡ is_negative (value_at b x y) → HasWords b words samples
      → HasWords b (fold marked words (marks (place_of x y) (3840 * from_bool negative))) (with_sample b.width samples x y)
  words-marked whole words samples negative size minus h = record {
    size = length-set samples (y * b.width + x) true ∙ h.size;
    each = by_sign negative minus;
  }
    where
      inside : y * b.width + x < length samples
      inside = rw h.size (mul-add-lt y b.width x b.height high wide)

      by_sign : (negative : Bool) → negative ≡ is_negative (value_at b x y) → (x' y' : ℕ) → x' < b.width → y' < b.height
          → IsWord b.width (with_sample b.width samples x y) (negatives b) x' y' (get_or (fold marked words (marks (place_of x y) (3840 * from_bool negative))) (place_of x' y') 0)
      by_sign true e x' y' wide' high' =
          marked-negative b.width x y wide narrow (omega arith) samples (negatives b) inside words size x' y' wide' (omega arith) (h.each x' y' wide' high') (negatives-at b narrow low x y wide high whole ∙ sym e)
      by_sign false e x' y' wide' high' =
          marked-positive b.width x y wide narrow (omega arith) samples (negatives b) inside words size x' y' wide' (omega arith) (h.each x' y' wide' high') (negatives-at b narrow low x y wide high whole ∙ sym e)

module _ (b : Block) (narrow : b.width ≤ 32) (low : b.height ≤ 32) (w i : ℕ) (inside : w < 16) (small : i < 64) (some : has_sample b w i ≡ true) where
  told-marked : (s t : PassState) (v : Walk) → length s.words ≡ 1156 → length s.significant ≡ 16 → length b.values ≡ b.width * b.height
      → t.words ≡ fold marked s.words (marks (place_of (column_at w i) (row_at w i)) (3840 * from_bool (is_negative (value_at b (column_at w i) (row_at w i)))))
      → t.significant ≡ set s.significant w (bit_or (get_or s.significant w 0) (1 * 2 ^ i % 18446744073709551616))
      → t.visited ≡ s.visited → t.count ≡ s.count → t.decisions ≡ s.decisions
      → HasTold b s v → HasTold b t (record v { significant = with_sample b.width v.significant (column_at w i) (row_at w i) })
  told-marked s t v size all whole e f g k l h = record {
    sets = record {
      significant_size = length-set v.significant (row_at w i * b.width + column_at w i) true ∙ h.sets.significant_size;
      visited_size = h.sets.visited_size;
      words = λ x y wide high.
          rw e ((words-marked b narrow low (column_at w i) (row_at w i) (sample-column b w i some) (sample-row b w i some) whole s.words v.significant (is_negative (value_at b (column_at w i) (row_at w i))) size refl
          (record { size = h.sets.significant_size; each = h.sets.words })).each x y wide high);
      significant = λ w' i' p q. rw f (bits-more b w i some v.significant s.significant inside small all h.sets.significant_size h.sets.significant w' i' p q);
      visited = λ w' i' p q. rw g (h.sets.visited w' i' p q);
    };
    list = rw (k, l) h.list;
    contexts = rw (k, l) h.contexts;
  }

  pub told-sign_told : (s r t : PassState) (v : Walk) (context : ℕ) (flips negative : Bool)
      → length r.words ≡ 1156 → length r.significant ≡ 16 → length b.values ≡ b.width * b.height
      → context ≡ (sign_context (horizontal_sign_of 8 (get_or s.words (place_of (column_at w i) (row_at w i)) 0)) (vertical_sign_of 8 (get_or s.words (place_of (column_at w i) (row_at w i)) 0))).context
      → flips ≡ (sign_context (horizontal_sign_of 8 (get_or s.words (place_of (column_at w i) (row_at w i)) 0)) (vertical_sign_of 8 (get_or s.words (place_of (column_at w i) (row_at w i)) 0))).flips
      → negative ≡ is_negative (value_at b (column_at w i) (row_at w i))
      → r.words ≡ s.words → r.significant ≡ s.significant → r.visited ≡ s.visited
      → take r.count r.decisions ≡ take s.count s.decisions ++ (2 * context + from_bool (flipped_if flips negative)) ∷ []
      → t.words ≡ fold marked r.words (marks (place_of (column_at w i) (row_at w i)) (3840 * from_bool negative))
      → t.significant ≡ set r.significant w (bit_or (get_or r.significant w 0) (1 * 2 ^ i % 18446744073709551616))
      → t.visited ≡ r.visited → t.count ≡ r.count → t.decisions ≡ r.decisions
      → HasTold b s v → HasTold b t (sign_told b (column_at w i) (row_at w i) v)
  unfolding sign_told with_decision
  told-sign_told s r t v context flips negative size all whole e f minus words significant visited list marks_set bit_set same_visited same_count same_decisions h =
      let sign = sign_context-word b.width v.significant (negatives b) (column_at w i) (row_at w i) (get_or s.words (place_of (column_at w i) (row_at w i)) 0) (h.sets.words (column_at w i) (row_at w i) (sample-column b w i some) (sample-row b w i some)) in
      let the_context : context ≡ (sign_context_at b.width v.significant (negatives b) (column_at w i) (row_at w i)).context = e ∙ ap (λ (c : SignContext). c.context) sign in
      let the_flips : flips ≡ (sign_context_at b.width v.significant (negatives b) (column_at w i) (row_at w i)).flips = f ∙ ap (λ (c : SignContext). c.flips) sign in
      told-marked r t _ size all whole (rw (← minus) marks_set) bit_set same_visited same_count same_decisions
      (rw (← the_context, ← the_flips, ← minus) (told-with_decision b s r v context (flipped_if flips negative) (sign-small _ _ context e) words significant visited list h))
