-- The component transform and the 9-7 wavelet transform: ITU-T T.800 Annex G.3 and Annex F.4.8, five levels.
-- Samples have 13 bits behind the point, constants of the lifting steps 16. The fixed point and the clamp
-- are this project's own.
--     lifted k parity line      the line after one lifting step
--     transformed_line line     a line after its five steps, low samples first
--     level rows                an area after one level: columns, rows, clamp
--     transformed n columns rows area    an area after n levels, its low-low part in the upper left corner
use Rattle.std.specs.Prelude.{ℕ, zero, suc, ◌-◌, ◌^◌, ◌%◌, ◌==◌, if◌then◌else◌, List, [], ◌∷◌, ◌++◌, map, length, slice_index_or, ℤ, pos, ◌+ℤ◌, ◌-ℤ◌, ◌*ℤ◌, neg_ℤ}
use Rattle.std.specs.Int.{int_shr, int_min, int_max, div_ceil}
use Rattle.std.specs.List.{range_with_len}
use Rattle.codec_terms.specs.Grid.{columns_of, part_of, with_corner}

-- ---- the component transform (Annex G.3), after the level shift (Annex G.1), of code values of 12 bits

abbrev pub shifted : ℕ → ℤ
shifted code = pos code -ℤ pos 2048

abbrev pub luma : ℤ → ℤ → ℤ → ℤ
luma a b c = int_shr (pos 19595 *ℤ a +ℤ pos 38470 *ℤ b +ℤ pos 7471 *ℤ c) 3

abbrev pub chroma_blue : ℤ → ℤ → ℤ → ℤ
chroma_blue a b c = int_shr (neg_ℤ (pos 11059) *ℤ a -ℤ pos 21709 *ℤ b +ℤ pos 32768 *ℤ c) 3

abbrev pub chroma_red : ℤ → ℤ → ℤ → ℤ
chroma_red a b c = int_shr (pos 32768 *ℤ a -ℤ pos 27439 *ℤ b -ℤ pos 5329 *ℤ c) 3

-- the three planes' samples at one place, as f makes a new one of them, for planes of X', Y' and Z'
unfoldable pub component : (ℤ → ℤ → ℤ → ℤ) → List ℕ → List ℕ → List ℕ → List ℤ
component f (x ∷ xs) (y ∷ ys) (z ∷ zs) = f (shifted x) (shifted y) (shifted z) ∷ component f xs ys zs
component f _ _ _ = []

-- ---- one line (Annex F.4.8.2), which has two samples or more; so it is in all five levels of a picture of at
-- least 17 columns and 17 rows

-- the sample before place i and the one behind it, in a line of n: an index outside is reflected at the
-- end (Annex F.4.7)
abbrev pub place_before : ℕ → ℕ
place_before zero = 1
place_before (suc i) = i

abbrev pub place_behind : ℕ → ℕ → ℕ
place_behind n i = if suc i == n then n - 2 else suc i

abbrev pub sample : List ℤ → ℕ → ℤ
sample line i = slice_index_or line i (pos 0)

-- k * s with k in units of 2^-16, rounded down
abbrev pub scaled : ℤ → ℤ → ℤ
scaled k s = int_shr (k *ℤ s) 16

abbrev pub lifted_sample : ℤ → ℕ → List ℤ → ℕ → ℤ
lifted_sample k parity line i =
    if i % 2 == parity
    then sample line i +ℤ scaled k (sample line (place_before i) +ℤ sample line (place_behind (length line) i))
    else sample line i

-- to each sample at a place of this parity, k times its two neighbours is added
unfoldable pub lifted : ℤ → ℕ → List ℤ → List ℤ
lifted k parity line = map (lifted_sample k parity line) (range_with_len 0 (length line))

-- the samples at even places, and those at odd places
unfoldable pub even_samples : List ℤ → List ℤ
even_samples [] = []
even_samples (a ∷ []) = a ∷ []
even_samples (a ∷ b ∷ line) = a ∷ even_samples line

unfoldable pub odd_samples : List ℤ → List ℤ
odd_samples [] = []
odd_samples (a ∷ []) = []
odd_samples (a ∷ b ∷ line) = b ∷ odd_samples line

-- the four lifting steps with the constants α, β, γ, δ
abbrev pub four_steps : List ℤ → List ℤ
four_steps line =
    lifted (pos 29066) 0 (lifted (pos 57862) 1
    (lifted (neg_ℤ (pos 3472)) 0 (lifted (neg_ℤ (pos 103949)) 1 line)))

-- the low samples, then the high ones, each scaled
unfoldable pub transformed_line : List ℤ → List ℤ
transformed_line line =
    map (scaled (pos 53274)) (even_samples (four_steps line))
    ++ map (scaled (pos 80621)) (odd_samples (four_steps line))

-- ---- levels (Annex F.4.2 to F.4.5); an area is a grid of samples

abbrev pub clamped : ℤ → ℤ
clamped v = int_max (neg_ℤ (pos (2 ^ 26))) (int_min v (pos (2 ^ 26)))

unfoldable pub level : List (List ℤ) → List (List ℤ)
level rows = map (map clamped) (map transformed_line (columns_of (map transformed_line (columns_of rows))))

-- of n samples in a line, how many are low
abbrev pub low_count : ℕ → ℕ
low_count n = div_ceil n 2

-- n levels on the upper left part of columns × rows of an area
unfoldable pub transformed : ℕ → ℕ → ℕ → List (List ℤ) → List (List ℤ)
transformed zero columns rows area = area
transformed (suc n) columns rows area =
    transformed n (low_count columns) (low_count rows)
    (with_corner (level (part_of 0 0 columns rows area)) area)
