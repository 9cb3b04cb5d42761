-- The entries of a segment as one item.
use Rattle.std.proofs.Common.{◌≡◌, ◌∙◌, ℕ, ◌+◌, ◌*◌, ◌<◌, List, [], ◌∷◌, ◌++◌, length, map, take, get_or, refl, sym, ap, ap₂, arith}
use Rattle.std.specs.Int.{to_be_bytes, w16, w32}
use Rattle.std.specs.List.{flat_map}
use Rattle.std.proofs.lemmas.List.{flat_map_more, length-map, take_more}
use Rattle.klv_base.specs.Items.{set_item}
use Rattle.track_terms.specs.Tail.{index_entry, entries_item}
use Rattle.track_terms.specs.Values.{batch}
use Rattle.track_terms.specs.declared.tag.TheConstants.{INDEX_ENTRIES}
use Rattle.mxf_header.proofs.Pieces.{pieces_5}

flat_map-map : (places : List ℕ) → flat_map (λ i. i) (map index_entry places) ≡ flat_map index_entry places
flat_map-map [] = refl
flat_map-map (place ∷ places) = ap (λ rest. index_entry place ++ rest) (flat_map-map places)

length-entries : (places : List ℕ) → length (flat_map (λ i. i) (map index_entry places)) ≡ 11 * length places
length-entries [] = refl
length-entries (place ∷ places) = omega (arith, length-entries places)

pub length-batch : (places : List ℕ) → length (batch 11 (map index_entry places)) ≡ 8 + 11 * length places
length-batch places = omega (arith, length-entries places)

-- an item of this length, of so many entries
abbrev entries_of : ℕ → ℕ → List ℕ → List ℕ
entries_of size count entries =
    to_be_bytes w16 INDEX_ENTRIES ++ to_be_bytes w16 size ++ to_be_bytes w32 count ++ to_be_bytes w32 11 ++ entries

pub entries-pieces : (places tag long count eleven o o1 o2 o3 o4 o5 : List ℕ) (size : ℕ) → size ≡ 8 + 11 * length places
    → tag ≡ to_be_bytes w16 INDEX_ENTRIES → long ≡ to_be_bytes w16 size → count ≡ to_be_bytes w32 (length places)
    → eleven ≡ to_be_bytes w32 11 → o1 ≡ o ++ tag → o2 ≡ o1 ++ long → o3 ≡ o2 ++ count → o4 ≡ o3 ++ eleven
    → o5 ≡ o4 ++ flat_map index_entry places → o5 ≡ o ++ set_item (entries_item places)
entries-pieces places tag long count eleven o o1 o2 o3 o4 o5 size is t l n e p q r s v =
    pieces_5 o o1 o2 o3 o4 o5 tag long count eleven (flat_map index_entry places) p q r s v
    ∙ ap₂ (λ t l. o ++ (t ++ l ++ count ++ eleven ++ flat_map index_entry places)) t l
    ∙ ap₂ (λ n e. o ++ (to_be_bytes w16 INDEX_ENTRIES ++ to_be_bytes w16 size ++ n ++ e ++ flat_map index_entry places)) n e
    ∙ ap (λ n. o ++ entries_of n (length places) (flat_map index_entry places)) (is ∙ sym (length-batch places))
    ∙ ap (λ n. o ++ entries_of (length (batch 11 (map index_entry places))) n (flat_map index_entry places)) (sym (length-map places index_entry))
    ∙ ap (λ es. o ++ entries_of (length (batch 11 (map index_entry places))) (length (map index_entry places)) es) (sym (flat_map-map places))

-- one entry more
pub entries-more : (places entry o out out' : List ℕ) (i : ℕ) → i < length places → entry ≡ index_entry (get_or places i 0)
    → out ≡ o ++ flat_map index_entry (take i places) → out' ≡ out ++ entry
    → out' ≡ o ++ flat_map index_entry (take (i + 1) places)
entries-more places entry o out out' i there is before put =
    put
    ∙ ap₂ (λ out e. out ++ e) before is
    ∙ flat_map_more index_entry o (take i places) (get_or places i 0)
    ∙ ap (λ ps. o ++ flat_map index_entry ps) (sym (take_more places i 0 there))
