-- Sub-bands: ITU-T T.800 Annex B.5 (resolutions and sizes) and Annex E.1 (steps and bit-planes).
-- The exponents and mantissas, the ranks and what a cut keeps are this project's own.
--     band_columns shape band, band_rows shape band    the size of a sub-band
--     exponent band, mantissa band, step band          its quantisation
--     rank band                                        its place, from 0 to 47, in the order in which cuts
--         take a bit-plane away
--     lowest_plane cut band                            the lowest bit-plane that is kept
--     component_bands j, all_bands                     the sub-bands in the order in which coefficients
--         are listed
-- A sub-band has a level from 1 to 5, LL level 5, and a component from 0 to 2. For no other are these definitions
-- meant.
use Rattle.std.specs.Prelude.{ℕ, zero, suc, ◌+◌, ◌-◌, ◌*◌, ◌/◌, ◌^◌, ◌%◌, Bool, true, false, nat_lt, List, [], ◌∷◌, take, drop, sum_by, ℤ}
use Rattle.std.specs.Int.{div_ceil, from_bool}
use Rattle.std.specs.List.{flat_map}
use Rattle.codec_terms.specs.declared.picture.Shape.{Shape}
use Rattle.codec_terms.specs.declared.picture.Band.{Band}
use Rattle.codec_terms.specs.declared.picture.BandKind.{BandKind}
use Rattle.codec_terms.specs.declared.picture.BandKind.TheVariants.{LL, HL, LH, HH}

-- ---- sizes (equation B-15)

-- whether the rows were high-pass filtered, and whether the columns were
abbrev pub is_high_in_rows : BandKind → Bool
is_high_in_rows LL = false
is_high_in_rows HL = true
is_high_in_rows LH = false
is_high_in_rows HH = true

abbrev pub is_high_in_columns : BandKind → Bool
is_high_in_columns LL = false
is_high_in_columns HL = false
is_high_in_columns LH = true
is_high_in_columns HH = true

-- how many of n samples are in the low or the high part at this level
abbrev pub band_side : ℕ → ℕ → Bool → ℕ
band_side n level high = div_ceil (n - 2 ^ (level - 1) * from_bool high) (2 ^ level)

abbrev pub band_columns : Shape → Band → ℕ
band_columns shape band = band_side shape.width band.level (is_high_in_rows band.kind)

abbrev pub band_rows : Shape → Band → ℕ
band_rows shape band = band_side shape.height band.level (is_high_in_columns band.kind)

-- ---- quantisation (equation E-3); with one guard bit a band has as many bit-planes as its exponent says
-- (equation E-2)

abbrev pub exponent_at : ℕ → BandKind → ℕ
exponent_at level LL = 14
exponent_at (suc (suc (suc (suc (suc n))))) _ = 15
exponent_at (suc (suc (suc (suc zero)))) _ = 14
exponent_at (suc (suc _)) _ = 13
exponent_at _ _ = 12

abbrev pub exponent : Band → ℕ
exponent band = exponent_at band.level band.kind

abbrev pub mantissa_of : BandKind → ℕ
mantissa_of LL = 0
mantissa_of HL = 256
mantissa_of LH = 256
mantissa_of HH = 512

abbrev pub mantissa : Band → ℕ
mantissa band = mantissa_of band.kind

-- the bits of the nominal dynamic range: 12 and the gain of the band's kind (table E.1)
abbrev pub range_bits : BandKind → ℕ
range_bits LL = 12
range_bits HL = 13
range_bits LH = 13
range_bits HH = 14

-- the step in the units of the transformed samples, 2^-13; no exponent is above range_bits + 2
abbrev pub step : Band → ℕ
step band = 2 ^ (range_bits band.kind + 2 - exponent band) * (2048 + mantissa band)

-- quantised values have no more bit-planes
abbrev pub plane_limit : Band → ℕ
plane_limit band = exponent band

-- ---- ranks and cuts

abbrev pub kind_rank : BandKind → ℕ
kind_rank LL = 0
kind_rank HH = 0
kind_rank HL = 1
kind_rank LH = 2

-- components 1 and 2 come before component 0
abbrev pub component_rank : ℕ → ℕ
component_rank zero = 2
component_rank (suc n) = n

-- LL of level 5 comes behind all others
abbrev pub rank_at : ℕ → ℕ → BandKind → ℕ
rank_at component level LL = 45 + component_rank component
rank_at component level kind = 9 * (level - 1) + 3 * kind_rank kind + component_rank component

abbrev pub rank : Band → ℕ
rank band = rank_at band.component band.level band.kind

abbrev pub lowest_plane : ℕ → Band → ℕ
lowest_plane cut band = cut / 48 + from_bool (nat_lt (rank band) (cut % 48))

-- ---- the order of sub-bands

abbrev pub band_of : ℕ → ℕ → BandKind → Band
band_of component level kind = record { component = component; level = level; kind = kind }

-- the sub-bands of resolution r, which has those of level 6 - r
unfoldable pub resolution_bands : ℕ → ℕ → List Band
resolution_bands component zero = band_of component 5 LL ∷ []
resolution_bands component (suc r) =
    band_of component (5 - r) HL ∷ band_of component (5 - r) LH ∷ band_of component (5 - r) HH ∷ []

unfoldable pub component_bands : ℕ → List Band
component_bands component = flat_map (resolution_bands component) (0 ∷ 1 ∷ 2 ∷ 3 ∷ 4 ∷ 5 ∷ [])

unfoldable pub all_bands : List Band
all_bands = flat_map component_bands (0 ∷ 1 ∷ 2 ∷ [])

-- ---- coefficients: one list that has those of each sub-band in turn, in raster order

-- how many samples a sub-band has
abbrev pub band_length : Shape → Band → ℕ
band_length shape band = band_columns shape band * band_rows shape band

-- the place of a sub-band among all
abbrev pub kind_place : ℕ → BandKind → ℕ
kind_place level LL = 0
kind_place level HL = 3 * (5 - level) + 1
kind_place level LH = 3 * (5 - level) + 2
kind_place level HH = 3 * (5 - level) + 3

abbrev pub band_place : Band → ℕ
band_place band = 16 * band.component + kind_place band.level band.kind

-- where its coefficients begin, and which they are
abbrev pub band_start : Shape → Band → ℕ
band_start shape band = sum_by (band_length shape) (take (band_place band) all_bands)

unfoldable pub band_values : Shape → List ℤ → Band → List ℤ
band_values shape coefficients band = take (band_length shape band) (drop (band_start shape band) coefficients)
