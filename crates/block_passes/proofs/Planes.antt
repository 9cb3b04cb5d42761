-- A bit-plane's three passes, from what is kept before it to what is kept behind it.
use Rattle.std.proofs.Common.{◌≡◌, ℕ, suc, ◌*◌, ◌<◌, refl, ◌∙◌, false, length, fold, replicate}
use Rattle.std.proofs.lemmas.Nat.Bits.{bit_at-zero}
use Rattle.std.proofs.lemmas.List.{get_or-replicate, length-replicate}
use Rattle.std.proofs.lemmas.List.Elements.{All-nil}
use Rattle.codec_terms.specs.Contexts.{scan}
use Rattle.codec_terms.specs.BlockDecisions.{Block, Walk, no_samples, column_cleaned, cleanup, plane_start}
use Rattle.block_words.proofs.Blank.{none-in}
use Rattle.block_sets.specs.Places.{column_at, row_at}
use Rattle.block_passes.specs.declared.state.PassState.{PassState}
use Rattle.block_passes.specs.Told.{HasBits, HasSets, HasTold}

pub no-bits : (b : Block) → HasBits b (no_samples b) (replicate 16 0)
no-bits b w i p q =
    rw (get_or-replicate {A = ℕ} 16 w 0 0 p, none-in b.width (length b.values) (suc (column_at w i)) (suc (row_at w i))) (bit_at-zero i)

pub told-start : (b : Block) (p : ℕ) (s t : PassState) → t.words ≡ s.words → t.significant ≡ s.significant → t.visited ≡ s.visited → t.count ≡ 0
    → HasSets b s (plane_start b p).significant (no_samples b) → HasTold b t (plane_start b p)
told-start b p s t e f g k h = record {
  sets = record {
    significant_size = h.significant_size;
    visited_size = h.visited_size;
    words = λ x y wide high. rw e (h.words x y wide high);
    significant = λ w i inside small. rw f (h.significant w i inside small);
    visited = λ w i inside small. rw g (h.visited w i inside small);
  };
  list = rw k refl;
  contexts = rw k (All-nil (λ (code : ℕ). code < 38));
}

pub told-cleaned : (b : Block) (p : ℕ) → length b.values ≡ b.width * b.height → (s t : PassState) (v : Walk)
    → t.words ≡ s.words → t.significant ≡ s.significant → t.visited ≡ replicate 16 0 → t.count ≡ s.count → t.decisions ≡ s.decisions
    → HasTold b s (fold (column_cleaned b p) v (scan b.width b.height)) → HasTold b t (cleanup b p v)
unfolding cleanup
told-cleaned b p whole s t v e f g k l h = record {
  sets = record {
    significant_size = h.sets.significant_size;
    visited_size = length-replicate (length b.values) false ∙ whole;
    words = λ x y wide high. rw e (h.sets.words x y wide high);
    significant = λ w i inside small. rw f (h.sets.significant w i inside small);
    visited = λ w i inside small. rw g (no-bits b w i inside small);
  };
  list = rw (k, l) h.list;
  contexts = rw (k, l) h.contexts;
}
