-- One sub-band, in front of the later ones.
use Rattle.std.proofs.Common.{◌≡◌, ◌∙◌, ℕ, suc, ◌+◌, ◌<◌, ◌≤◌, refl, ap, ap₂, arith, List, [], ◌∷◌, length, drop, get_or, inl, inr, Ok, Err}
use Rattle.std.specs.Prelude.{min}
use Rattle.std.proofs.Math.Seq.{drop-cons}
use Rattle.std.proofs.lemmas.List.{drop_all}
use Rattle.std.proofs.lemmas.Bool.{cases_lt}
use Rattle.codec_terms.specs.declared.packet.BandShape.{BandShape}
use Rattle.codec_terms.specs.declared.packet.PacketBlock.{PacketBlock}
use Rattle.codec_terms.specs.declared.packet.HeadRefusal.{HeadRefusal}
use Rattle.codec_terms.specs.PacketReading.{BitPlace, BlockHead, band_read, bands_read, codewords_read, band_codewords_read}
use Rattle.packet_reading.specs.Refused.{IsRefused}
use Rattle.packet_reading.proofs.Behind.{in_front}

split_at : {A : Type 0} (xs : List A) (i : ℕ) (d : A) → i < length xs → drop i xs ≡ get_or xs i d ∷ drop (i + 1) xs
split_at xs i d inside =
    let next : suc i ≡ i + 1 = omega arith in
    drop-cons xs i d inside ∙ ap (λ n. get_or xs i d ∷ drop n xs) next

module _ (bytes : List ℕ) where
  -- ---- heads

  first_band : (s : BandShape) (shapes : List BandShape) (heads : List BlockHead) (p q : BitPlace) → band_read bytes s p ≡ Ok (heads, q)
      → bands_read bytes (s ∷ shapes) p ≡ in_front heads (bands_read bytes shapes q)
  unfolding bands_read
  first_band s shapes heads p q h = rw h refl

  first_refused : (s : BandShape) (shapes : List BandShape) (p : BitPlace) (refusal : HeadRefusal) → band_read bytes s p ≡ Err refusal → bands_read bytes (s ∷ shapes) p ≡ Err refusal
  unfolding bands_read
  first_refused s shapes p refusal h = rw h refl

  pub next_band : (shapes : List BandShape) (i : ℕ) (d : BandShape) (heads : List BlockHead) (p q : BitPlace) → i < length shapes → band_read bytes (get_or shapes i d) p ≡ Ok (heads, q)
      → bands_read bytes (drop i shapes) p ≡ in_front heads (bands_read bytes (drop (i + 1) shapes) q)
  next_band shapes i d heads p q inside h =
      ap (λ shapes. bands_read bytes shapes p) (split_at shapes i d inside) ∙ first_band (get_or shapes i d) (drop (i + 1) shapes) heads p q h

  pub next_refused : (shapes : List BandShape) (i : ℕ) (d : BandShape) (p : BitPlace) (refusal : HeadRefusal) → i < length shapes → IsRefused (band_read bytes (get_or shapes i d) p) refusal
      → IsRefused (bands_read bytes (drop i shapes) p) refusal
  next_refused shapes i d p refusal inside h = λ other.
      ap (λ shapes. bands_read bytes shapes p) (split_at shapes i d inside) ∙ first_refused (get_or shapes i d) (drop (i + 1) shapes) p refusal (h other)

  pub no_bands : (shapes : List BandShape) (i : ℕ) (p : BitPlace) → length shapes ≤ i → bands_read bytes (drop i shapes) p ≡ Ok ([], p)
  unfolding bands_read
  no_bands shapes i p past = rw (drop_all i shapes past) refl

  -- ---- codewords

  first_codewords : (s : BandShape) (shapes : List BandShape) (heads : List BlockHead) (bands : List (List BlockHead)) (blocks : List PacketBlock) (at next : ℕ)
      → codewords_read bytes heads at ≡ Ok (blocks, next)
      → band_codewords_read bytes (s ∷ shapes) (heads ∷ bands) at ≡ in_front (record { columns = s.columns; rows = s.rows; blocks = blocks }) (band_codewords_read bytes shapes bands next)
  unfolding band_codewords_read
  first_codewords s shapes heads bands blocks at next h = rw h refl

  first_past : (s : BandShape) (shapes : List BandShape) (heads : List BlockHead) (bands : List (List BlockHead)) (at : ℕ) (refusal : HeadRefusal)
      → codewords_read bytes heads at ≡ Err refusal → band_codewords_read bytes (s ∷ shapes) (heads ∷ bands) at ≡ Err refusal
  unfolding band_codewords_read
  first_past s shapes heads bands at refusal h = rw h refl

  no_heads : (shapes : List BandShape) (at : ℕ) → band_codewords_read bytes shapes [] at ≡ Ok ([], at)
  unfolding band_codewords_read
  no_heads [] at = refl
  no_heads (s ∷ shapes) at = refl

  no_shapes : (bands : List (List BlockHead)) (at : ℕ) → band_codewords_read bytes [] bands at ≡ Ok ([], at)
  unfolding band_codewords_read
  no_shapes bands at = refl

  module _ (shapes : List BandShape) (bands : List (List BlockHead)) (i at : ℕ) where
    pub next_codewords : (d : BandShape) (e heads : List BlockHead) (blocks : List PacketBlock) (next : ℕ) → i < length shapes → i < length bands → heads ≡ get_or bands i e
        → codewords_read bytes heads at ≡ Ok (blocks, next)
        → band_codewords_read bytes (drop i shapes) (drop i bands) at
        ≡ in_front (record { columns = (get_or shapes i d).columns; rows = (get_or shapes i d).rows; blocks = blocks }) (band_codewords_read bytes (drop (i + 1) shapes) (drop (i + 1) bands) next)
    next_codewords d e heads blocks next inside there same h =
        ap₂ (λ shapes bands. band_codewords_read bytes shapes bands at) (split_at shapes i d inside) (split_at bands i e there)
        ∙ first_codewords (get_or shapes i d) (drop (i + 1) shapes) (get_or bands i e) (drop (i + 1) bands) blocks at next (rw (← same) h)

    pub next_past : (d : BandShape) (e heads : List BlockHead) (refusal : HeadRefusal) → i < length shapes → i < length bands → heads ≡ get_or bands i e
        → IsRefused (codewords_read bytes heads at) refusal → IsRefused (band_codewords_read bytes (drop i shapes) (drop i bands) at) refusal
    next_past d e heads refusal inside there same h = λ other.
        ap₂ (λ shapes bands. band_codewords_read bytes shapes bands at) (split_at shapes i d inside) (split_at bands i e there)
        ∙ first_past (get_or shapes i d) (drop (i + 1) shapes) (get_or bands i e) (drop (i + 1) bands) at refusal (rw (← same) (h other))

    pub no_codewords_left : min (length shapes) (length bands) ≤ i → band_codewords_read bytes (drop i shapes) (drop i bands) at ≡ Ok ([], at)
    no_codewords_left past = elim (cases_lt i (length shapes)) [
      | inl below ↦ (let there : length bands ≤ i = omega arith in
          ap (λ bands. band_codewords_read bytes (drop i shapes) bands at) (drop_all i bands there) ∙ no_heads (drop i shapes) at)
      | inr above ↦ ap (λ shapes. band_codewords_read bytes shapes (drop i bands) at) (drop_all i shapes above) ∙ no_shapes (drop i bands) at
    ]
