-- The bits of a leaf, one by one, and those of block after block.
use Rattle.std.proofs.Common.{◌≡◌, ◌∙◌, ℕ, zero, suc, refl, Bool, true, false, List, Result, Ok, Err}
use Rattle.codec_terms.specs.declared.packet.HeadRefusal.{HeadRefusal}
use Rattle.codec_terms.specs.Reading.{on_ok}
use Rattle.codec_terms.specs.TagTree.{FoundTree, wants, pushed}
use Rattle.codec_terms.specs.PacketReading.{BitPlace, bit_read, leaf_read_within}
use Rattle.header_bits.proofs.Steps.{then-ok, then-err}

module _ (bytes : List ℕ) (t at : ℕ) where
  pub leaf_read_within-none : (k : ℕ) (tree : FoundTree) (p : BitPlace) → k ≡ 0 → leaf_read_within bytes k t at tree p ≡ Ok (tree, p)
  unfolding leaf_read_within
  leaf_read_within-none k tree p none = rw none refl

  pub leaf_read_within-unwanted : (k : ℕ) (tree : FoundTree) (p : BitPlace) → wants t tree at ≡ false → leaf_read_within bytes k t at tree p ≡ Ok (tree, p)
  unfolding leaf_read_within
  leaf_read_within-unwanted zero tree p unwanted = refl
  leaf_read_within-unwanted (suc k) tree p unwanted = rw (unwanted, leaf_read_within) refl

  abbrev pub behind_bit : ℕ → FoundTree → Bool × BitPlace → Result (FoundTree × BitPlace) HeadRefusal
  behind_bit k tree r = leaf_read_within bytes k t at (pushed r.0 t tree at) r.1

  pub wanted : (k j : ℕ) (tree : FoundTree) (p : BitPlace) → wants t tree at ≡ true → k ≡ suc j → leaf_read_within bytes k t at tree p ≡ on_ok (bit_read bytes p) (behind_bit j tree)
  unfolding leaf_read_within
  wanted k j tree p some one = rw (one, some, leaf_read_within) refl

  pub leaf_read_within-more : (k j : ℕ) (tree after : FoundTree) (p q : BitPlace) (bit : Bool) → wants t tree at ≡ true → bit_read bytes p ≡ Ok (bit, q) → after ≡ pushed bit t tree at → k ≡ suc j
      → leaf_read_within bytes k t at tree p ≡ leaf_read_within bytes j t at after q
  leaf_read_within-more k j tree after p q bit some h push one =
      rw push (wanted k j tree p some one ∙ then-ok (bit_read bytes p) (behind_bit j tree) (bit, q) h)

  pub leaf_read_within-err : (k j : ℕ) (tree : FoundTree) (p : BitPlace) (refusal : HeadRefusal) → wants t tree at ≡ true → bit_read bytes p ≡ Err refusal → k ≡ suc j
      → leaf_read_within bytes k t at tree p ≡ Err refusal
  leaf_read_within-err k j tree p refusal some h one = wanted k j tree p some one ∙ then-err (bit_read bytes p) (behind_bit j tree) refusal h
