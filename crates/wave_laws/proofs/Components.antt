-- The samples of a picture's components are within 2^24.
use Rattle.std.proofs.Common.{ℕ, zero, suc, ◌+◌, ◌*◌, ◌^◌, ◌<◌, ◌≤◌, arith, List, [], ◌∷◌, All, ℤ, pos, negsuc, neg_ℤ, ◌+ℤ◌, ◌-ℤ◌, ◌*ℤ◌, unsigned_abs}
use Rattle.std.specs.Int.{int_shr}
use Rattle.std.proofs.lemmas.Int.{ints, unsigned_abs-mul}
use Rattle.std.proofs.lemmas.List.Elements.{All-nil, All-cons, All-head, All-tail}
use Rattle.codec_terms.specs.Colour.{code_value, xyz_value, xyz_plane, Weights, x_weights, y_weights, z_weights}
use Rattle.codec_terms.specs.Wavelet.{shifted, luma, chroma_blue, chroma_red, component}
use Rattle.codec_terms.specs.Encode.{component_planes, picture_planes}
use Rattle.codec_terms.proofs.ColourLaws.{code_value-greatest}
use Rattle.wave_laws.specs.Ranges.{IsWithin}
use Rattle.wave_laws.proofs.Bounds.{abs_add}

-- ---- one place

abbrev pub IsCode : ℕ → Type 0
IsCode n = n < 4096

abs_sub : (a b : ℤ) → unsigned_abs (a -ℤ b) ≤ unsigned_abs a + unsigned_abs b
abs_sub a b = grind (arith, ints)

abs_shifted : (n : ℕ) → IsCode n → unsigned_abs (shifted n) ≤ 2 ^ 11
abs_shifted n small = grind (arith, ints)

abs_eighth : (v : ℤ) → unsigned_abs v ≤ 2 ^ 27 → IsWithin (2 ^ 24) (int_shr v 3)
abs_eighth (pos n) small = omega arith
abs_eighth (negsuc n) small = omega arith

abbrev pub IsSmall : (ℤ → ℤ → ℤ → ℤ) → Type 0
IsSmall f = (x y z : ℕ) → x < 4096 → y < 4096 → z < 4096 → IsWithin (2 ^ 24) (f (shifted x) (shifted y) (shifted z))

pub IsSmall-luma : IsSmall luma
IsSmall-luma x y z p q r =
    abs_eighth _ (omega (
      arith,
      abs_shifted x p,
      abs_shifted y q,
      abs_shifted z r,
      abs_add (pos 19595 *ℤ shifted x +ℤ pos 38470 *ℤ shifted y) (pos 7471 *ℤ shifted z),
      abs_add (pos 19595 *ℤ shifted x) (pos 38470 *ℤ shifted y),
      unsigned_abs-mul (pos 19595) (shifted x),
      unsigned_abs-mul (pos 38470) (shifted y),
      unsigned_abs-mul (pos 7471) (shifted z),
    ))

pub IsSmall-chroma_blue : IsSmall chroma_blue
IsSmall-chroma_blue x y z p q r =
    abs_eighth _ (omega (
      arith,
      abs_shifted x p,
      abs_shifted y q,
      abs_shifted z r,
      abs_add (neg_ℤ (pos 11059) *ℤ shifted x -ℤ pos 21709 *ℤ shifted y) (pos 32768 *ℤ shifted z),
      abs_sub (neg_ℤ (pos 11059) *ℤ shifted x) (pos 21709 *ℤ shifted y),
      unsigned_abs-mul (neg_ℤ (pos 11059)) (shifted x),
      unsigned_abs-mul (pos 21709) (shifted y),
      unsigned_abs-mul (pos 32768) (shifted z),
    ))

pub IsSmall-chroma_red : IsSmall chroma_red
IsSmall-chroma_red x y z p q r =
    abs_eighth _ (omega (
      arith,
      abs_shifted x p,
      abs_shifted y q,
      abs_shifted z r,
      abs_sub (pos 32768 *ℤ shifted x -ℤ pos 27439 *ℤ shifted y) (pos 5329 *ℤ shifted z),
      abs_sub (pos 32768 *ℤ shifted x) (pos 27439 *ℤ shifted y),
      unsigned_abs-mul (pos 32768) (shifted x),
      unsigned_abs-mul (pos 27439) (shifted y),
      unsigned_abs-mul (pos 5329) (shifted z),
    ))

-- ---- planes

pub All-component : (f : ℤ → ℤ → ℤ → ℤ) → IsSmall f → (xs ys zs : List ℕ) → All IsCode xs → All IsCode ys → All IsCode zs → All (IsWithin (2 ^ 24)) (component f xs ys zs)
unfolding component
All-component f small [] ys zs p q r = All-nil (IsWithin (2 ^ 24))
All-component f small (x ∷ xs) [] zs p q r = All-nil (IsWithin (2 ^ 24))
All-component f small (x ∷ xs) (y ∷ ys) [] p q r = All-nil (IsWithin (2 ^ 24))
All-component f small (x ∷ xs) (y ∷ ys) (z ∷ zs) p q r =
    All-cons (IsWithin (2 ^ 24)) (f (shifted x) (shifted y) (shifted z)) (component f xs ys zs)
    (small x y z (All-head IsCode x xs p) (All-head IsCode y ys q) (All-head IsCode z zs r))
    (All-component f small xs ys zs (All-tail IsCode x xs p) (All-tail IsCode y ys q) (All-tail IsCode z zs r))

IsCode-code_value : (v : ℕ) → IsCode (code_value v)
unfolding code_value
IsCode-code_value zero = omega arith
IsCode-code_value (suc v) = (code_value-greatest v).below

All-xyz_plane : (power : ℕ) (weights : Weights) (raw : List ℕ) → All IsCode (xyz_plane power weights raw)
unfolding xyz_plane
All-xyz_plane power weights [] = All-nil IsCode
All-xyz_plane power weights (r1 ∷ []) = All-nil IsCode
All-xyz_plane power weights (r1 ∷ r0 ∷ []) = All-nil IsCode
All-xyz_plane power weights (r1 ∷ r0 ∷ g1 ∷ []) = All-nil IsCode
All-xyz_plane power weights (r1 ∷ r0 ∷ g1 ∷ g0 ∷ []) = All-nil IsCode
All-xyz_plane power weights (r1 ∷ r0 ∷ g1 ∷ g0 ∷ b1 ∷ []) = All-nil IsCode
All-xyz_plane power weights (r1 ∷ r0 ∷ g1 ∷ g0 ∷ b1 ∷ b0 ∷ raw) =
    All-cons IsCode (xyz_value power weights (r1 * 256 + r0) (g1 * 256 + g0) (b1 * 256 + b0)) (xyz_plane power weights raw)
    (IsCode-code_value _) (All-xyz_plane power weights raw)

three_planes : (P : List ℤ → Type 0) (x y z : List ℤ) → P x → P y → P z → All P (x ∷ y ∷ z ∷ [])
three_planes P x y z p q r = All-cons P x (y ∷ z ∷ []) p (All-cons P y (z ∷ []) q (All-cons P z [] r (All-nil P)))

pub All-component_planes : (xs ys zs : List ℕ) → All IsCode xs → All IsCode ys → All IsCode zs → All (All (IsWithin (2 ^ 24))) (component_planes xs ys zs)
All-component_planes xs ys zs p q r =
    three_planes (All (IsWithin (2 ^ 24))) (component luma xs ys zs) (component chroma_blue xs ys zs) (component chroma_red xs ys zs)
    (All-component luma IsSmall-luma xs ys zs p q r) (All-component chroma_blue IsSmall-chroma_blue xs ys zs p q r) (All-component chroma_red IsSmall-chroma_red xs ys zs p q r)

pub All-picture_planes : (power : ℕ) (raw : List ℕ) → All (All (IsWithin (2 ^ 24))) (picture_planes power raw)
All-picture_planes power raw =
    All-component_planes (xyz_plane power x_weights raw) (xyz_plane power y_weights raw) (xyz_plane power z_weights raw)
    (All-xyz_plane power x_weights raw) (All-xyz_plane power y_weights raw) (All-xyz_plane power z_weights raw)
