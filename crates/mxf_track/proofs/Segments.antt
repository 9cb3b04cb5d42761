-- Index segments, and how many bytes they have.
use Rattle.std.proofs.Common.{◌≡◌, ◌∙◌, ℕ, zero, suc, ◌+◌, ◌*◌, ◌-◌, min, List, [], ◌∷◌, ◌++◌, length, take, drop, refl, sym, ap, ap₂, append_assoc, append-nil, add-one, arith}
use Rattle.std.specs.Prelude.{codes}
use Rattle.std.specs.Fmt.{decimal}
use Rattle.std.specs.List.{flat_map, range_with_len}
use Rattle.std.proofs.lemmas.Grind.{flat_map-append}
use Rattle.std.proofs.lemmas.List.{length-append, length-take, length-drop, take_min}
use Rattle.klv_base.specs.Items.{key_length, local_set, set_item, set_value}
use Rattle.track_terms.specs.Facts.{PlainFacts}
use Rattle.track_terms.specs.Keys.{key_of}
use Rattle.track_terms.specs.Partitions.{footer_partition, pack}
use Rattle.track_terms.specs.Tail.{description_items, entries_item, random_index, segment, segment_items, segment_places, segments, tail}
use Rattle.track_terms.specs.declared.key.TheConstants.{INDEX, RANDOM_INDEX}
use Rattle.track_terms.proofs.HeadSizes.{length-item, length-key_length, length-pack}
use Rattle.track_terms.proofs.KeyLaws.{length-key_of}
use Rattle.track_terms.proofs.Sizes.{length-id_of}
use Rattle.mxf_track.specs.Sizes.{segment_count, segments_size, tail_size}
use Rattle.mxf_header.proofs.Pieces.{pieces_3}
use Rattle.mxf_track.proofs.Entries.{length-batch}

length-behind_id : (id rest : List ℕ) → length id ≡ 16 → length (id ++ rest) ≡ 16 + length rest
length-behind_id id rest sixteen = omega (arith, length-append id rest)

length-description : (facts : PlainFacts) (j n : ℕ) → length (set_value (description_items facts j n)) ≡ 85
unfolding description_items
length-description facts j n =
    ap (λ k. suc (suc (suc (suc k)))) (length-behind_id _ _ (length-id_of facts (codes "index-" ++ decimal j)))

length-entries_item : (places : List ℕ) → length (set_item (entries_item places)) ≡ 12 + 11 * length places
length-entries_item places = omega (arith, length-batch places)

pub set_value-segment : (facts : PlainFacts) (j : ℕ) (places : List ℕ)
    → set_value (segment_items facts j places) ≡ set_value (description_items facts j (length places)) ++ set_item (entries_item places)
set_value-segment facts j places =
    flat_map-append set_item (description_items facts j (length places)) (entries_item places ∷ [])
    ∙ ap (λ e. set_value (description_items facts j (length places)) ++ e) (append-nil (set_item (entries_item places)))

pub length-segment_items : (facts : PlainFacts) (j : ℕ) (places : List ℕ)
    → length (set_value (segment_items facts j places)) ≡ 97 + 11 * length places
length-segment_items facts j places =
    omega (
      arith,
      ap length (set_value-segment facts j places),
      length-append (set_value (description_items facts j (length places))) (set_item (entries_item places)),
      length-description facts j (length places),
      length-entries_item places,
    )

-- a segment by its pieces
pub segment-pieces : (facts : PlainFacts) (j : ℕ) (places o o1 o2 o3 head : List ℕ) (size : ℕ) → size ≡ 97 + 11 * length places
    → head ≡ key_length (key_of INDEX) size → o1 ≡ o ++ head → o2 ≡ o1 ++ set_value (description_items facts j (length places))
    → o3 ≡ o2 ++ set_item (entries_item places) → o3 ≡ o ++ local_set (key_of INDEX) (segment_items facts j places)
segment-pieces facts j places o o1 o2 o3 head size is h p q r =
    pieces_3 o o1 o2 o3 head _ _ p q r
    ∙ ap (λ b. o ++ b)
    (append_assoc head (set_value (description_items facts j (length places))) (set_item (entries_item places))
    ∙ ap₂ (λ h v. h ++ v) (h ∙ ap (key_length (key_of INDEX)) (is ∙ sym (length-segment_items facts j places))) (sym (set_value-segment facts j places)))

-- ---- all of them

range_with_len-more : (a n : ℕ) → range_with_len a (suc n) ≡ range_with_len a n ++ (a + n) ∷ []
range_with_len-more a zero = ap (λ k. k ∷ []) (omega arith)
range_with_len-more a (suc n) =
    ap (λ rest. a ∷ rest) (range_with_len-more (a + 1) n ∙ ap (λ k. range_with_len (a + 1) n ++ k ∷ []) (omega arith))

module _ (facts : PlainFacts) (places : List ℕ) where
  -- the first segments
  unfoldable pub first_segments : ℕ → List ℕ
  first_segments k = flat_map (segment facts places) (range_with_len 0 k)

  pub first_segments-more : (k : ℕ) → first_segments (suc k) ≡ first_segments k ++ segment facts places k
  unfolding first_segments
  first_segments-more k =
      ap (flat_map (segment facts places)) (range_with_len-more 0 k)
      ∙ flat_map-append (segment facts places) (range_with_len 0 k) ((0 + k) ∷ [])
      ∙ ap (λ s. first_segments k ++ s) (append-nil (segment facts places (0 + k)))
      ∙ ap (λ j. first_segments k ++ segment facts places j) (omega arith)

  length-segment_places : (k : ℕ) → length (segment_places places k) ≡ min 5000 (length places - 5000 * k)
  unfolding segment_places
  length-segment_places k = length-take 5000 (drop (5000 * k) places) ∙ ap (min 5000) (length-drop (5000 * k) places)

  length-segment : (k : ℕ) → length (segment facts places k) ≡ 117 + 11 * min 5000 (length places - 5000 * k)
  length-segment k =
      let key : length (key_of INDEX) ≡ 16 = length-key_of INDEX in
      omega (
        arith,
        length-item (key_of INDEX) (set_value (segment_items facts k (segment_places places k))) key,
        length-segment_items facts k (segment_places places k),
        length-segment_places k,
      )

  length-first_segments : (k : ℕ) → length (first_segments k) ≡ 117 * k + 11 * min (5000 * k) (length places)
  unfolding first_segments
  length-first_segments zero = omega arith
  length-first_segments (suc k) =
      omega (
        arith,
        ap length (first_segments-more k),
        length-append (first_segments k) (segment facts places k),
        length-segment k,
        length-first_segments k,
      )

  pub length-segments : length (segments facts places) ≡ segments_size (length places)
  unfolding segments first_segments
  length-segments = omega (arith, length-first_segments (segment_count (length places)))

  -- the places of segment k, as they are taken of the slice
  pub places-taken : (k end : ℕ) → end ≡ min (length places) (5000 * k + 5000)
      → take (end - 5000 * k) (drop (5000 * k) places) ≡ segment_places places k
  unfolding segment_places
  places-taken k end is =
      let rest = drop (5000 * k) places in
      let size : end - 5000 * k ≡ min 5000 (length rest) = omega (arith, is, length-drop (5000 * k) places) in
      ap (λ n. take n rest) size ∙ take_min 5000 rest

  pub segments-first : segments facts places ≡ first_segments (segment_count (length places))
  unfolding segments first_segments
  segments-first = refl

  -- one segment more
  pub segments-step : (k end : ℕ) (o out out' : List ℕ) → end ≡ min (length places) (5000 * k + 5000)
      → out ≡ o ++ first_segments k
      → out' ≡ out ++ local_set (key_of INDEX) (segment_items facts k (take (end - 5000 * k) (drop (5000 * k) places)))
      → out' ≡ o ++ first_segments (k + 1)
  segments-step k end o out out' is before put =
      put
      ∙ ap₂ (λ out ps. out ++ local_set (key_of INDEX) (segment_items facts k ps)) before
      (places-taken k end is)
      ∙ append_assoc o (first_segments k) (segment facts places k)
      ∙ ap (λ s. o ++ s) (sym (first_segments-more k) ∙ ap first_segments (sym (add-one k)))

  -- the whole tail
  pub length-tail : (footer : ℕ) → length (tail facts places footer) ≡ tail_size (length places)
  length-tail footer =
      let first = pack facts.kind (footer_partition footer (length (segments facts places))) in
      let key : length (key_of RANDOM_INDEX) ≡ 16 = length-key_of RANDOM_INDEX in
      let last : length (random_index footer) ≡ 60 = omega (arith, length-key_length (key_of RANDOM_INDEX) 40 key, length-append {A = ℕ}) in
      omega (
        arith,
        length-append (first ++ segments facts places) (random_index footer),
        length-append first (segments facts places),
        length-pack facts.kind (footer_partition footer (length (segments facts places))) refl,
        length-segments,
        last,
      )
