-- What a place of the grid has.
use Rattle.std.proofs.Common.{◌≡◌, ℕ, ◌+◌, ◌-◌, ◌/◌, ◌%◌, ◌<◌, ap, sym, ◌∙◌, arith, length, Some}
use Rattle.std.specs.List.{slice_get, flat_map, range_with_len}
use Rattle.std.proofs.lemmas.List.FromFn.{length-map-range_with_len}
use Rattle.codec_terms.specs.declared.picture.Shape.{Shape}
use Rattle.codec_terms.specs.Precincts.{precinct_columns, packet_order}
use Rattle.band_laws.specs.Places.{first_resolution, precinct_on, place_precincts, place_count, precincts_by_place}
use Rattle.band_laws.proofs.Order.{packet_order-by_place}
use Rattle.band_map.proofs.Search.{slice_get-map-range, item_from}

pub packets-from_first : (shape : Shape) (n : ℕ) → slice_get (packet_order shape) n ≡ item_from (place_precincts shape) (place_count shape) 0 n
unfolding precincts_by_place
packets-from_first shape n =
    let whole : place_count shape ≡ place_count shape - 0 = omega arith in
    ap (λ ps. slice_get ps n) (packet_order-by_place shape)
    ∙ ap (λ m. slice_get (flat_map (place_precincts shape) (range_with_len 0 m)) n) whole

-- what the code computes of a place
pub record IsFirst (shape : Shape) (place columns first : ℕ) : Type 0 where
  pub columns_are : columns ≡ precinct_columns shape 5
  pub first_is : first ≡ first_resolution (place % columns) (place / columns)

first-at : (shape : Shape) (place columns first : ℕ) → IsFirst shape place columns first
    → first ≡ first_resolution (place % precinct_columns shape 5) (place / precinct_columns shape 5)
first-at shape place columns first h = h.first_is ∙ ap (λ c. first_resolution (place % c) (place / c)) h.columns_are

pub length-place : (shape : Shape) (place columns first : ℕ) → IsFirst shape place columns first → length (place_precincts shape place) ≡ 6 - first
length-place shape place columns first h = length-map-range_with_len _ _ _ ∙ ap (λ n. 6 - n) (sym (first-at shape place columns first h))

pub place-item : (shape : Shape) (place columns first k : ℕ) → IsFirst shape place columns first → k < 6 - first
    → slice_get (place_precincts shape place) k ≡ Some (precinct_on shape (place % columns) (place / columns) (first + k))
place-item shape place columns first k h inside =
    let at = first-at shape place columns first h in
    slice_get-map-range _ _ _ k (omega arith)
    ∙ (ap (λ n. Some (precinct_on shape (place % precinct_columns shape 5) (place / precinct_columns shape 5) (n + k))) (sym at)
    ∙ ap (λ c. Some (precinct_on shape (place % c) (place / c) (first + k))) (sym h.columns_are))
