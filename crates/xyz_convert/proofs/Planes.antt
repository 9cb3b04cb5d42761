-- A row of code values, pixel by pixel.
use Rattle.std.proofs.Common.{◌≡◌, ℕ, suc, ◌+◌, ◌*◌, ◌^◌, ◌<◌, ◌≤◌, List, [], ◌∷◌, length, get_or, refl, sym, ap, ap₂, ◌∙◌, arith, add_assoc, inl, inr, Fits, w8}
use Rattle.codec_terms.specs.Colour.{Weights, xyz_value, xyz_plane}
use Rattle.std.proofs.lemmas.Bool.{cases_lt}
use Rattle.std.proofs.lemmas.List.{get_or_past}
use Rattle.xyz_convert.specs.Entries.{IsTable, code_of, light_of, most_sum, sum_of}
use Rattle.xyz_convert.specs.Samples.{sample_at}
use Rattle.xyz_convert.proofs.Codes.{light_of-most}
use Rattle.xyz_convert.proofs.Sums.{sum_of-small}

pub xyz_value-looked_up : (p : ℕ) (w : Weights) (r g b : ℕ) → code_of (sum_of w (light_of p r) (light_of p g) (light_of p b)) ≡ xyz_value p w r g b
unfolding code_of sum_of light_of
xyz_value-looked_up p w r g b = refl

-- the code value of pixel k
abbrev pub pixel_code : ℕ → Weights → List ℕ → ℕ → ℕ
pixel_code p w raw k = xyz_value p w (sample_at raw (6 * k + 0)) (sample_at raw (6 * k + 2)) (sample_at raw (6 * k + 4))

next_at : (a b c d e f : ℕ) (raw : List ℕ) (k j : ℕ) → get_or (a ∷ b ∷ c ∷ d ∷ e ∷ f ∷ raw) (6 * suc k + j) 0 ≡ get_or raw (6 * k + j) 0
next_at a b c d e f raw k j =
    let next : 6 * suc k + j ≡ suc (suc (suc (suc (suc (suc (6 * k + j)))))) = omega arith in
    ap (λ at. get_or (a ∷ b ∷ c ∷ d ∷ e ∷ f ∷ raw) at 0) next

sample_at-next :
    (a b c d e f : ℕ) (raw : List ℕ) (k j : ℕ) →
    sample_at (a ∷ b ∷ c ∷ d ∷ e ∷ f ∷ raw) (6 * suc k + j) ≡ sample_at raw (6 * k + j)
sample_at-next a b c d e f raw k j =
    ap₂ (λ x y. x * 256 + y) (next_at a b c d e f raw k j)
    (ap (λ at. get_or (a ∷ b ∷ c ∷ d ∷ e ∷ f ∷ raw) at 0) (add_assoc (6 * suc k) j 1)
    ∙ next_at a b c d e f raw k (j + 1) ∙ ap (λ at. get_or raw at 0) (sym (add_assoc (6 * k) j 1)))

pixel_code-next : (p : ℕ) (w : Weights) (a b c d e f : ℕ) (raw : List ℕ) (k : ℕ) → pixel_code p w (a ∷ b ∷ c ∷ d ∷ e ∷ f ∷ raw) (suc k) ≡ pixel_code p w raw k
pixel_code-next p w a b c d e f raw k =
    rw (sample_at-next a b c d e f raw k 0, sample_at-next a b c d e f raw k 2, sample_at-next a b c d e f raw k 4) refl

pub xyz_plane-pixels :
    (p : ℕ) (w : Weights) (row raw : List ℕ) → length raw ≡ 6 * length row → ((k : ℕ) → k < length row → get_or row k 0 ≡ pixel_code p w raw k) →
    row ≡ xyz_plane p w raw
unfolding xyz_plane
xyz_plane-pixels p w [] [] n at = refl
xyz_plane-pixels p w [] (a ∷ raw) n at = absurd (omega arith)
xyz_plane-pixels p w (y ∷ row) (a ∷ b ∷ c ∷ d ∷ e ∷ f ∷ raw) n at =
    ap₂ (λ y ys. y ∷ ys) (at 0 (omega arith))
    (xyz_plane-pixels p w row raw (omega arith) (λ k inside. at (suc k) (omega arith) ∙ pixel_code-next p w a b c d e f raw k))
xyz_plane-pixels p w (y ∷ row) [] n at = absurd (omega arith)
xyz_plane-pixels p w (y ∷ row) (a ∷ []) n at = absurd (omega arith)
xyz_plane-pixels p w (y ∷ row) (a ∷ b ∷ []) n at = absurd (omega arith)
xyz_plane-pixels p w (y ∷ row) (a ∷ b ∷ c ∷ []) n at = absurd (omega arith)
xyz_plane-pixels p w (y ∷ row) (a ∷ b ∷ c ∷ d ∷ []) n at = absurd (omega arith)
xyz_plane-pixels p w (y ∷ row) (a ∷ b ∷ c ∷ d ∷ e ∷ []) n at = absurd (omega arith)

-- ---- from the rows that are looked up

-- a row of lights, of the samples at a place of each pixel
pub record IsColourRow (p place : ℕ) (raw row : List ℕ) (pixels : ℕ) : Type 0 where
  pub light : (k : ℕ) → k < pixels → get_or row k 0 ≡ light_of p (sample_at raw (6 * k + place))

pub xyz_plane-looked_up :
    (p : ℕ) (w : Weights) (row raw red green blue : List ℕ) → length raw ≡ 6 * length row →
    IsColourRow p 0 raw red (length row) → IsColourRow p 2 raw green (length row) → IsColourRow p 4 raw blue (length row) →
    ((k : ℕ) → k < length row → get_or row k 0 ≡ code_of (sum_of w (get_or red k 0) (get_or green k 0) (get_or blue k 0))) →
    row ≡ xyz_plane p w raw
xyz_plane-looked_up p w row raw red green blue n of_red of_green of_blue at =
    xyz_plane-pixels p w row raw n (λ k inside.
    at k inside ∙ sums k inside ∙ xyz_value-looked_up p w (sample_at raw (6 * k + 0)) (sample_at raw (6 * k + 2)) (sample_at raw (6 * k + 4)))
  where
    sums :
        (k : ℕ) → k < length row →
        code_of (sum_of w (get_or red k 0) (get_or green k 0) (get_or blue k 0))
        ≡ code_of (sum_of w (light_of p (sample_at raw (6 * k + 0))) (light_of p (sample_at raw (6 * k + 2))) (light_of p (sample_at raw (6 * k + 4))))
    sums k inside = rw (of_red.light k inside, of_green.light k inside, of_blue.light k inside) refl

-- ---- one row of lights

pub light-most :
    (p : ℕ) (table row : List ℕ) (sample : ℕ → ℕ) → 11 ≤ p → p ≤ 13 → IsTable (light_of p) (2 ^ 16) table →
    ((k : ℕ) → k < length row → (sample k < 2 ^ 16) × (get_or row k 0 ≡ get_or table (sample k) 0)) →
    (k : ℕ) → get_or row k 0 ≤ 2 ^ 24
light-most p table row sample low high is at k =
    elim (cases_lt k (length row)) [
      | inl inside ↦ omega (arith, (at k inside).1, is.entry (sample k) (at k inside).0, light_of-most p (sample k) low high (at k inside).0)
      | inr past ↦ omega (arith, get_or_past row k 0 past)
    ]

pub sample-small : (raw : List ℕ) (at : ℕ) → ((k : ℕ) → Fits w8 (get_or raw k 0)) → sample_at raw at < 2 ^ 16
sample-small raw at bytes = omega (arith, bytes at, bytes (at + 1))

-- ---- one row of sums

pub sums-most :
    (w : Weights) (sums red green blue : List ℕ) → w.red + w.green + w.blue ≤ 71357 →
    ((k : ℕ) → get_or red k 0 ≤ 2 ^ 24) → ((k : ℕ) → get_or green k 0 ≤ 2 ^ 24) → ((k : ℕ) → get_or blue k 0 ≤ 2 ^ 24) →
    ((k : ℕ) → k < length sums → get_or sums k 0 ≡ sum_of w (get_or red k 0) (get_or green k 0) (get_or blue k 0)) →
    (k : ℕ) → get_or sums k 0 ≤ most_sum
sums-most w sums red green blue light of_red of_green of_blue at k =
    elim (cases_lt k (length sums)) [
      | inl inside ↦ omega (arith, at k inside, sum_of-small w (get_or red k 0) (get_or green k 0) (get_or blue k 0) light (of_red k) (of_green k) (of_blue k))
      | inr past ↦ omega (arith, get_or_past sums k 0 past)
    ]
