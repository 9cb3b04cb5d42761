-- The places at which precincts' corners stand: a grid of 256 × 256 samples of the picture, in
-- raster order. At a place stand one precinct of some resolution and one of each above it.
use Rattle.std.specs.Prelude.{ℕ, ◌+◌, ◌-◌, ◌*◌, ◌/◌, ◌^◌, ◌%◌, ◌==◌, Bool, ◌&&◌, if◌then◌else◌, List, map}
use Rattle.std.specs.List.{flat_map, range_with_len}
use Rattle.codec_terms.specs.declared.picture.Shape.{Shape}
use Rattle.codec_terms.specs.Precincts.{Precinct, precinct_exponent, precinct_columns, precinct_rows, precinct_number, precinct_at}

-- how many places lie along a precinct's side: 16, 16, 8, 4, 2 and 1
abbrev pub places_along : ℕ → ℕ
places_along r = 2 ^ (precinct_exponent r + 5 - r - 8)

abbrev pub are_multiples : ℕ → ℕ → ℕ → Bool
are_multiples side x y = x % side == 0 && y % side == 0

-- the least resolution of which a precinct's corner stands in column x and row y of the places
abbrev pub first_resolution : ℕ → ℕ → ℕ
first_resolution x y =
    if are_multiples 16 x y then 0
    else (if are_multiples 8 x y then 2
    else (if are_multiples 4 x y then 3
    else (if are_multiples 2 x y then 4 else 5)))

abbrev pub precinct_on : Shape → ℕ → ℕ → ℕ → Precinct
precinct_on shape x y r =
    precinct_at r (precinct_columns shape r)
    (precinct_number shape r (x / places_along r) (y / places_along r))

abbrev pub precincts_on : Shape → ℕ → ℕ → List Precinct
precincts_on shape x y =
    map (precinct_on shape x y) (range_with_len (first_resolution x y) (6 - first_resolution x y))

-- at the place of this number; the finest resolution has a precinct at each
abbrev pub place_precincts : Shape → ℕ → List Precinct
place_precincts shape place =
    precincts_on shape (place % precinct_columns shape 5) (place / precinct_columns shape 5)

abbrev pub place_count : Shape → ℕ
place_count shape = precinct_columns shape 5 * precinct_rows shape 5

unfoldable pub precincts_by_place : Shape → List Precinct
precincts_by_place shape = flat_map (place_precincts shape) (range_with_len 0 (place_count shape))

-- how many precincts resolution r has
abbrev pub precinct_count : Shape → ℕ → ℕ
precinct_count shape r = precinct_columns shape r * precinct_rows shape r
