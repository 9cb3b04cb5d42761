-- The floors of a resolution's packets one by one.
use Rattle.std.proofs.Common.{◌≡◌, ℕ, ◌+◌, ◌<◌, ◌≤◌, refl, ap, ◌∙◌, arith, List, length, take, map, get_or, sum_by, ℤ}
use Rattle.std.specs.List.{range_with_len}
use Rattle.std.proofs.lemmas.List.{take_all}
use Rattle.std.proofs.lemmas.List.Sums.{sum_by_more, sum_by-take-le}
use Rattle.std.proofs.lemmas.List.FromFn.{length-range_with_len, get_or-range_with_len}
use Rattle.codec_terms.specs.declared.picture.Shape.{Shape}
use Rattle.codec_terms.specs.Bands.{resolution_bands}
use Rattle.codec_terms.specs.Codestream.{packet_band}
use Rattle.band_laws.specs.Places.{precinct_count}
use Rattle.floor_laws.specs.Floors.{packet_floor, resolution_floor}

abbrev pub floor_of : Shape → List ℤ → ℕ → ℕ → ℕ → ℕ → ℕ
floor_of shape q cut component r number = packet_floor (map (packet_band shape q cut number) (resolution_bands component r))

numbers : Shape → ℕ → List ℕ
numbers shape r = range_with_len 0 (precinct_count shape r)

-- those of the first n
pub first_floor : Shape → List ℤ → ℕ → ℕ → ℕ → ℕ → ℕ
first_floor shape q cut component r n = sum_by (floor_of shape q cut component r) (take n (numbers shape r))

pub first-none : (shape : Shape) (q : List ℤ) (cut component r : ℕ) → first_floor shape q cut component r 0 ≡ 0
unfolding first_floor
first-none shape q cut component r = refl

pub first-more : (shape : Shape) (q : List ℤ) (cut component r n : ℕ) → n < precinct_count shape r
    → first_floor shape q cut component r (n + 1) ≡ first_floor shape q cut component r n + floor_of shape q cut component r n
unfolding first_floor numbers
first-more shape q cut component r n below =
    let count : ℕ = precinct_count shape r in
    let f : ℕ → ℕ = floor_of shape q cut component r in
    let inside : n < length (range_with_len 0 count) = omega (arith, length-range_with_len 0 count, below) in
    let place : get_or (range_with_len 0 count) n 0 ≡ n = omega (arith, get_or-range_with_len 0 count n 0 below) in
    sum_by_more f (range_with_len 0 count) n 0 inside ∙ ap (λ (m : ℕ). sum_by f (take n (range_with_len 0 count)) + f m) place

pub first-all : (shape : Shape) (q : List ℤ) (cut component r n : ℕ) → precinct_count shape r ≤ n
    → first_floor shape q cut component r n ≡ resolution_floor shape q cut component r
unfolding first_floor numbers resolution_floor
first-all shape q cut component r n enough =
    let count : ℕ = precinct_count shape r in
    ap (λ (xs : List ℕ). sum_by (floor_of shape q cut component r) xs)
    (take_all n (range_with_len 0 count) (omega (arith, length-range_with_len 0 count, enough)))

pub first-within : (shape : Shape) (q : List ℤ) (cut component r n : ℕ) → first_floor shape q cut component r n ≤ resolution_floor shape q cut component r
unfolding first_floor numbers resolution_floor
first-within shape q cut component r n = sum_by-take-le (floor_of shape q cut component r) (range_with_len 0 (precinct_count shape r)) n
