-- One block, and one sub-band, of which only the lengths of the codewords count.
use Rattle.std.proofs.Common.{◌≡◌, ◌∙◌, ℕ, suc, ◌+◌, ◌-◌, ◌*◌, ◌/◌, ◌<◌, ◌≤◌, refl, sym, ap, ap₂, arith, Bool, true, false, List, [], ◌∷◌, ◌++◌, append_assoc, append-nil, length, drop, get_or, mul_comm, Result, Ok, Err}
use Rattle.std.specs.List.{range_with_len, flat_map}
use Rattle.std.proofs.Math.Seq.{drop-cons}
use Rattle.std.proofs.lemmas.List.{drop_all}
use Rattle.std.proofs.lemmas.List.Concat.{flat_map-cons}
use Rattle.std.proofs.lemmas.Nat.{div-mul-add, div_below}
use Rattle.codec_terms.specs.declared.packet.BandShape.{BandShape}
use Rattle.codec_terms.specs.declared.packet.HeadRefusal.{HeadRefusal}
use Rattle.codec_terms.specs.Reading.{on_ok, done, ◌>>=◌}
use Rattle.codec_terms.specs.TagTree.{FoundTree, blank_tree, leaf_value}
use Rattle.codec_terms.specs.PacketReading.{BitPlace, Bits, BlockHead, no_head, leaf_read, included_read, is_in_layer, blocks_read, band_read, bands_read}
use Rattle.header_bits.specs.declared.included.Included.{Included}
use Rattle.header_bits.specs.Heads.{head_of}
use Rattle.packet_scan.specs.Scanning.{sizes_in, with_sizes, with_band_sizes}
use Rattle.packet_scan.proofs.NodeReading.{first-is, second-is}

abbrev Heads : Type 0
Heads = Result (List BlockHead × BitPlace) HeadRefusal

abbrev with_head : BlockHead → Heads → Heads
with_head head rest = on_ok rest (λ (r : List BlockHead × BitPlace). Ok (head ∷ r.0, r.1))

absent-sizes : (sizes : List ℕ) (rest : Heads) → with_sizes sizes (with_head no_head rest) ≡ with_sizes sizes rest
absent-sizes sizes (Ok r) = refl
absent-sizes sizes (Err e) = refl

included-sizes : (sizes : List ℕ) (head : Included) (rest : Heads) → with_sizes sizes (with_head (head_of head) rest) ≡ with_sizes (sizes ++ head.size ∷ []) rest
included-sizes sizes head (Ok r) = ap (λ (s : List ℕ). Ok (s, r.1)) (sym (append_assoc sizes (head.size ∷ []) (sizes_in r.0)))
included-sizes sizes head (Err e) = refl

module _ (bytes : List ℕ) (mb at : ℕ) (layers planes : FoundTree) (p : BitPlace) where
  -- what comes behind the bits of the inclusion tree
  abbrev behind_layers : List ℕ → FoundTree → Bool → Bits (List BlockHead)
  behind_layers more layers_then true = do
    planes_then ← leaf_read bytes mb at planes
    head ← included_read bytes mb at planes_then
    heads ← blocks_read bytes mb layers_then planes_then more
    done (head ∷ heads)
  behind_layers more layers_then false = do
    heads ← blocks_read bytes mb layers_then planes more
    done (no_head ∷ heads)

  one_block : (more : List ℕ) → blocks_read bytes mb layers planes (at ∷ more) p
      ≡ on_ok (leaf_read bytes 1 at layers p) (λ r. behind_layers more r.0 (is_in_layer bytes (leaf_value r.0 at)) r.1)
  unfolding blocks_read
  one_block more = refl

  pub unread : (more : List ℕ) (refusal : HeadRefusal) → leaf_read bytes 1 at layers p ≡ Err refusal → blocks_read bytes mb layers planes (at ∷ more) p ≡ Err refusal
  unread more refusal h =
      one_block more ∙ ap (λ r. on_ok r (λ r. behind_layers more r.0 (is_in_layer bytes (leaf_value r.0 at)) r.1)) h

  module _ (layers_then : FoundTree) (q : BitPlace) (layer : leaf_read bytes 1 at layers p ≡ Ok (layers_then, q)) where
    behind : (more : List ℕ) (within : Bool) → is_in_layer bytes (leaf_value layers_then at) ≡ within
        → blocks_read bytes mb layers planes (at ∷ more) p ≡ behind_layers more layers_then within q
    behind more within h =
        one_block more
        ∙ ap (λ r. on_ok r (λ r. behind_layers more r.0 (is_in_layer bytes (leaf_value r.0 at)) r.1)) layer
        ∙ ap (λ within. behind_layers more layers_then within q) h

    pub absent : (sizes : List ℕ) (more : List ℕ) → is_in_layer bytes (leaf_value layers_then at) ≡ false
        → with_sizes sizes (blocks_read bytes mb layers planes (at ∷ more) p) ≡ with_sizes sizes (blocks_read bytes mb layers_then planes more q)
    absent sizes more out = ap (with_sizes sizes) (behind more false out) ∙ absent-sizes sizes (blocks_read bytes mb layers_then planes more q)

    module _ (within : is_in_layer bytes (leaf_value layers_then at) ≡ true) where
      pub planes_unread : (more : List ℕ) (refusal : HeadRefusal) → leaf_read bytes mb at planes q ≡ Err refusal → blocks_read bytes mb layers planes (at ∷ more) p ≡ Err refusal
      planes_unread more refusal h = behind more true within ∙ rw h refl

      module _ (planes_then : FoundTree) (r : BitPlace) (plane : leaf_read bytes mb at planes q ≡ Ok (planes_then, r)) where
        abbrev behind_planes : List ℕ → BlockHead × BitPlace → Heads
        behind_planes more h = with_head h.0 (blocks_read bytes mb layers_then planes_then more h.1)

        both : (more : List ℕ) → blocks_read bytes mb layers planes (at ∷ more) p ≡ on_ok (included_read bytes mb at planes_then r) (behind_planes more)
        both more = behind more true within ∙ rw plane refl

        pub included : (sizes : List ℕ) (head : Included) (s : BitPlace) (more : List ℕ) → included_read bytes mb at planes_then r ≡ Ok (head_of head, s)
            → with_sizes sizes (blocks_read bytes mb layers planes (at ∷ more) p) ≡ with_sizes (sizes ++ head.size ∷ []) (blocks_read bytes mb layers_then planes_then more s)
        included sizes head s more h =
            ap (with_sizes sizes) (both more ∙ ap (λ r. on_ok r (behind_planes more)) h) ∙ included-sizes sizes head (blocks_read bytes mb layers_then planes_then more s)

        pub head_unread : (more : List ℕ) (refusal : HeadRefusal) → included_read bytes mb at planes_then r ≡ Err refusal → blocks_read bytes mb layers planes (at ∷ more) p ≡ Err refusal
        head_unread more refusal h = both more ∙ ap (λ r. on_ok r (behind_planes more)) h

-- ---- blocks in raster order

pub next_block : (at count : ℕ) → at < count → range_with_len at (count - at) ≡ at ∷ range_with_len (at + 1) (count - (at + 1))
next_block at count below =
    let one : count - at ≡ suc (count - (at + 1)) = omega arith in
    let next : suc at ≡ at + 1 = omega arith in
    rw (one, ← next) refl

pub row-inside : (columns rows x y number : ℕ) → y * columns + x ≡ number → x < columns → number < columns * rows → y < rows
row-inside columns rows x y number place column below =
    let flip : columns * rows ≡ rows * columns = mul_comm columns rows in
    let inside : number < rows * columns = omega (arith, below, flip) in
    omega (arith, div_below number columns rows (omega (arith, column)) inside, ap (λ n. n / columns) (sym place) ∙ div-mul-add y columns x column)

pub sizes-refused : (sizes : List ℕ) (r : Heads) (refusal : HeadRefusal) → with_sizes sizes r ≡ Err refusal → r ≡ Err refusal
sizes-refused sizes (Ok r) refusal h = cc
sizes-refused sizes (Err e) refusal h = cc

module _ (bytes : List ℕ) where
  nothing : (mb : ℕ) (layers planes : FoundTree) (p : BitPlace) → blocks_read bytes mb layers planes [] p ≡ Ok ([], p)
  unfolding blocks_read
  nothing mb layers planes p = refl

  pub no_blocks : (sizes : List ℕ) (mb : ℕ) (layers planes : FoundTree) (at count : ℕ) (p : BitPlace) → count ≤ at
      → with_sizes sizes (blocks_read bytes mb layers planes (range_with_len at (count - at)) p) ≡ Ok (sizes, p)
  no_blocks sizes mb layers planes at count p past =
      let none : count - at ≡ 0 = omega (arith, past) in
      ap (λ n. with_sizes sizes (blocks_read bytes mb layers planes (range_with_len at n) p)) none
      ∙ ap (with_sizes sizes) (nothing mb layers planes p) ∙ ap (λ (s : List ℕ). Ok (s, p)) (append-nil sizes)

  pub empty_band : (sizes : List ℕ) (s : BandShape) (p : BitPlace) → s.columns * s.rows ≡ 0 → with_sizes sizes (band_read bytes s p) ≡ Ok (sizes, p)
  empty_band sizes s p none =
      ap (λ n. with_sizes sizes (blocks_read bytes s.mb (blank_tree s.columns s.rows) (blank_tree s.columns s.rows) (range_with_len 0 n) p)) none
      ∙ ap (with_sizes sizes) (nothing s.mb (blank_tree s.columns s.rows) (blank_tree s.columns s.rows) p) ∙ ap (λ (s : List ℕ). Ok (s, p)) (append-nil sizes)

  -- from the first block on
  pub all_blocks : (sizes : List ℕ) (s : BandShape) (layers planes : FoundTree) (p : BitPlace) → layers ≡ blank_tree s.columns s.rows → planes ≡ blank_tree s.columns s.rows
      → with_sizes sizes (band_read bytes s p) ≡ with_sizes sizes (blocks_read bytes s.mb layers planes (range_with_len 0 (s.columns * s.rows - 0)) p)
  all_blocks sizes s layers planes p e f =
      let same : s.columns * s.rows ≡ s.columns * s.rows - 0 = omega arith in
      ap₂ (λ (l m : FoundTree). with_sizes sizes (blocks_read bytes s.mb l m (range_with_len 0 (s.columns * s.rows)) p)) (sym e) (sym f)
      ∙ ap (λ n. with_sizes sizes (blocks_read bytes s.mb layers planes (range_with_len 0 n) p)) same

  -- ---- sub-bands

  abbrev Bands : Type 0
  Bands = Result (List (List BlockHead) × BitPlace) HeadRefusal

  abbrev with_bands : (BitPlace → Bands) → Heads → Bands
  with_bands later r = on_ok r (λ (h : List BlockHead × BitPlace). on_ok (later h.1) (λ (m : List (List BlockHead) × BitPlace). Ok (h.0 ∷ m.0, m.1)))

  front-sizes : (sizes : List ℕ) (heads : List BlockHead) (rest : Bands)
      → with_band_sizes sizes (on_ok rest (λ (m : List (List BlockHead) × BitPlace). Ok (heads ∷ m.0, m.1))) ≡ with_band_sizes (sizes ++ sizes_in heads) rest
  front-sizes sizes heads (Ok m) =
      ap (λ (s : List ℕ). Ok (sizes ++ s, m.1)) (flat_map-cons sizes_in heads m.0)
      ∙ ap (λ (s : List ℕ). Ok (s, m.1)) (sym (append_assoc sizes (sizes_in heads) (flat_map sizes_in m.0)))
  front-sizes sizes heads (Err e) = refl

  front : (sizes after : List ℕ) (q : BitPlace) (later : BitPlace → Bands) (r : Heads) → with_sizes sizes r ≡ Ok (after, q)
      → with_band_sizes sizes (with_bands later r) ≡ with_band_sizes after (later q)
  front sizes after q later (Ok h) e =
      let is : sizes ++ sizes_in h.0 ≡ after = first-is (with_sizes sizes (Ok h)) (sizes ++ sizes_in h.0) after h.1 q refl e in
      let place : h.1 ≡ q = second-is (with_sizes sizes (Ok h)) (sizes ++ sizes_in h.0) after h.1 q refl e in
      front-sizes sizes h.0 (later h.1) ∙ ap₂ (λ (s : List ℕ) (p : BitPlace). with_band_sizes s (later p)) is place
  front sizes after q later (Err f) e = cc

  first_band : (sizes after : List ℕ) (s : BandShape) (shapes : List BandShape) (p q : BitPlace) → with_sizes sizes (band_read bytes s p) ≡ Ok (after, q)
      → with_band_sizes sizes (bands_read bytes (s ∷ shapes) p) ≡ with_band_sizes after (bands_read bytes shapes q)
  unfolding bands_read
  first_band sizes after s shapes p q h = front sizes after q (bands_read bytes shapes) (band_read bytes s p) h

  first_refused : (s : BandShape) (shapes : List BandShape) (p : BitPlace) (refusal : HeadRefusal) → band_read bytes s p ≡ Err refusal → bands_read bytes (s ∷ shapes) p ≡ Err refusal
  unfolding bands_read
  first_refused s shapes p refusal h = rw h refl

  pub split_at : {A : Type 0} (xs : List A) (i : ℕ) (d : A) → i < length xs → drop i xs ≡ get_or xs i d ∷ drop (i + 1) xs
  split_at xs i d inside =
      let next : suc i ≡ i + 1 = omega arith in
      drop-cons xs i d inside ∙ ap (λ n. get_or xs i d ∷ drop n xs) next

  pub next_band : (sizes after : List ℕ) (shapes : List BandShape) (i : ℕ) (d : BandShape) (p q : BitPlace) → i < length shapes
      → with_sizes sizes (band_read bytes (get_or shapes i d) p) ≡ Ok (after, q)
      → with_band_sizes sizes (bands_read bytes (drop i shapes) p) ≡ with_band_sizes after (bands_read bytes (drop (i + 1) shapes) q)
  next_band sizes after shapes i d p q inside h =
      ap (λ shapes. with_band_sizes sizes (bands_read bytes shapes p)) (split_at shapes i d inside) ∙ first_band sizes after (get_or shapes i d) (drop (i + 1) shapes) p q h

  pub next_refused : (shapes : List BandShape) (i : ℕ) (d : BandShape) (p : BitPlace) (refusal : HeadRefusal) → i < length shapes → band_read bytes (get_or shapes i d) p ≡ Err refusal
      → bands_read bytes (drop i shapes) p ≡ Err refusal
  next_refused shapes i d p refusal inside h =
      ap (λ shapes. bands_read bytes shapes p) (split_at shapes i d inside) ∙ first_refused (get_or shapes i d) (drop (i + 1) shapes) p refusal h

  pub no_bands : (sizes : List ℕ) (shapes : List BandShape) (i : ℕ) (p : BitPlace) → length shapes ≤ i → with_band_sizes sizes (bands_read bytes (drop i shapes) p) ≡ Ok (sizes, p)
  unfolding bands_read
  no_bands sizes shapes i p past = rw (drop_all i shapes past) (ap (λ (s : List ℕ). Ok (s, p)) (append-nil sizes))

  pub bands-refused : (sizes : List ℕ) (r : Bands) (refusal : HeadRefusal) → with_band_sizes sizes r ≡ Err refusal → r ≡ Err refusal
  bands-refused sizes (Ok r) refusal h = cc
  bands-refused sizes (Err e) refusal h = cc
