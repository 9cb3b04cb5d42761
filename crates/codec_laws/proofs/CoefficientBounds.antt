-- Planes and coefficients of a picture: how many there are, and how great.
use Rattle.std.proofs.Common.{◌≡◌, ℕ, zero, suc, ◌+◌, ◌*◌, ◌-◌, ◌/◌, ◌^◌, ◌<◌, ◌≤◌, refl, sym, ap, subst, ◌∙◌, arith, Bool, true, false, List, [], ◌∷◌, length, map, get_or, All, ℤ, pos, negsuc, neg_ℤ, ◌+ℤ◌, ◌-ℤ◌, ◌*ℤ◌, unsigned_abs, min, zero-add}
use Rattle.std.specs.Prelude.{◌&&◌, nat_le}
use Rattle.std.specs.Int.{int_shr}
use Rattle.std.specs.List.{flat_map}
use Rattle.std.proofs.lemmas.Int.{ints, unsigned_abs-mul}
use Rattle.std.proofs.lemmas.Nat.{pow_pos}
use Rattle.std.proofs.lemmas.Bool.{leb-true, and_parts}
use Rattle.std.proofs.lemmas.List.Concat.{length-flat_map}
use Rattle.std.proofs.lemmas.List.Sums.{AllPass-from_list_all}
use Rattle.std.proofs.lemmas.List.Elements.{All-nil, All-cons, All-head, All-tail, All-map, All-weaker}
use Rattle.codec_terms.specs.declared.picture.Shape.{Shape}
use Rattle.codec_terms.specs.declared.picture.Band.{Band}
use Rattle.codec_terms.specs.Quantiser.{with_sign_of, quantised}
use Rattle.codec_terms.specs.Bands.{step, plane_limit, is_high_in_rows, is_high_in_columns, band_side, band_columns, band_rows, band_length, band_place, band_values, all_bands, component_bands, resolution_bands}
use Rattle.codec_terms.specs.Colour.{code_value, xyz_value, xyz_plane, Weights, x_weights, y_weights, z_weights}
use Rattle.codec_terms.specs.Wavelet.{shifted, luma, chroma_blue, chroma_red, component}
use Rattle.codec_terms.specs.Encode.{picture_planes, wave, band_side_start, quantised_band, quantised_planes, coefficients}
use Rattle.codec_terms.proofs.ColourLaws.{code_value-greatest}
use Rattle.codec_terms.proofs.CoefficientLaws.{AreAtPlaces, all_at_places, sum_by-all_bands}
use Rattle.codec_laws.specs.Bounds.{IsRowOf, IsGridOf, IsClamped, FitsBand, FitBands}
use Rattle.codec_laws.proofs.Lists.{sum_by-same, take-drop-flat_map}
use Rattle.codec_laws.proofs.Grids.{IsRowOf-map, IsGridOf-part_of, IsRowOf-items_of}
use Rattle.codec_laws.proofs.Wave.{IsGridOf-wave}

-- ---- quantised values

unsigned_abs-with_sign_of : (v : ℤ) (n : ℕ) → unsigned_abs (with_sign_of v n) ≡ n
unsigned_abs-with_sign_of (pos m) n = refl
unsigned_abs-with_sign_of (negsuc m) zero = refl
unsigned_abs-with_sign_of (negsuc m) (suc n) = refl

pub FitsBand-quantised : (band : Band) (v : ℤ) → FitsBand band (quantised band v)
FitsBand-quantised band v =
    rw (unsigned_abs-with_sign_of v (min (unsigned_abs v / step band) (2 ^ plane_limit band - 1))) (omega (arith, pow_pos (plane_limit band)))

-- ---- code values and components

IsCode : ℕ → Type 0
IsCode n = n < 4096

IsCode-code_value : (v : ℕ) → IsCode (code_value v)
unfolding IsCode code_value
IsCode-code_value zero = omega arith
IsCode-code_value (suc v) = (code_value-greatest v).below

-- six raw bytes give one code value
IsRowOf-xyz_plane : (power : ℕ) (weights : Weights) (n : ℕ) (raw : List ℕ) → length raw ≡ n * 6 → IsRowOf IsCode n (xyz_plane power weights raw)
unfolding xyz_plane
IsRowOf-xyz_plane power weights zero [] whole = record { size = refl; each = All-nil IsCode }
IsRowOf-xyz_plane power weights zero (r1 ∷ raw) whole = absurd (omega arith)
IsRowOf-xyz_plane power weights (suc n) [] whole = absurd (omega arith)
IsRowOf-xyz_plane power weights (suc n) (r1 ∷ []) whole = absurd (omega arith)
IsRowOf-xyz_plane power weights (suc n) (r1 ∷ r0 ∷ []) whole = absurd (omega arith)
IsRowOf-xyz_plane power weights (suc n) (r1 ∷ r0 ∷ g1 ∷ []) whole = absurd (omega arith)
IsRowOf-xyz_plane power weights (suc n) (r1 ∷ r0 ∷ g1 ∷ g0 ∷ []) whole = absurd (omega arith)
IsRowOf-xyz_plane power weights (suc n) (r1 ∷ r0 ∷ g1 ∷ g0 ∷ b1 ∷ []) whole = absurd (omega arith)
IsRowOf-xyz_plane power weights (suc n) (r1 ∷ r0 ∷ g1 ∷ g0 ∷ b1 ∷ b0 ∷ raw) whole =
    let rest = IsRowOf-xyz_plane power weights n raw (omega arith) in
    record {
      size = ap suc rest.size;
      each = All-cons IsCode (xyz_value power weights (r1 * 256 + r0) (g1 * 256 + g0) (b1 * 256 + b0)) (xyz_plane power weights raw) (IsCode-code_value _) rest.each;
    }

-- how great a sum, a difference and a shifted value can be
abs_add : (a b : ℤ) → unsigned_abs (a +ℤ b) ≤ unsigned_abs a + unsigned_abs b
abs_add a b = grind (arith, ints)

abs_sub : (a b : ℤ) → unsigned_abs (a -ℤ b) ≤ unsigned_abs a + unsigned_abs b
abs_sub a b = grind (arith, ints)

abs_shifted : (n : ℕ) → IsCode n → unsigned_abs (shifted n) ≤ 2 ^ 11
unfolding IsCode
abs_shifted n small = grind (arith, ints)

abs_eighth : (v : ℤ) → unsigned_abs v ≤ 2 ^ 27 → unsigned_abs (int_shr v 3) ≤ 2 ^ 24
abs_eighth (pos n) small = omega arith
abs_eighth (negsuc n) small = omega arith

-- a component's formula, of which the weights come to at most 2^16 in all
IsSmall : (ℤ → ℤ → ℤ → ℤ) → Type 0
IsSmall f = (a b c : ℤ) → unsigned_abs a ≤ 2 ^ 11 → unsigned_abs b ≤ 2 ^ 11 → unsigned_abs c ≤ 2 ^ 11 → unsigned_abs (f a b c) ≤ 2 ^ 24

IsSmall-luma : IsSmall luma
unfolding IsSmall
IsSmall-luma a b c p q r =
    abs_eighth _ (omega (
      arith,
      abs_add (pos 19595 *ℤ a +ℤ pos 38470 *ℤ b) (pos 7471 *ℤ c),
      abs_add (pos 19595 *ℤ a) (pos 38470 *ℤ b),
      unsigned_abs-mul (pos 19595) a,
      unsigned_abs-mul (pos 38470) b,
      unsigned_abs-mul (pos 7471) c,
    ))

IsSmall-chroma_blue : IsSmall chroma_blue
unfolding IsSmall
IsSmall-chroma_blue a b c p q r =
    abs_eighth _ (omega (
      arith,
      abs_add (neg_ℤ (pos 11059) *ℤ a -ℤ pos 21709 *ℤ b) (pos 32768 *ℤ c),
      abs_sub (neg_ℤ (pos 11059) *ℤ a) (pos 21709 *ℤ b),
      unsigned_abs-mul (neg_ℤ (pos 11059)) a,
      unsigned_abs-mul (pos 21709) b,
      unsigned_abs-mul (pos 32768) c,
    ))

IsSmall-chroma_red : IsSmall chroma_red
unfolding IsSmall
IsSmall-chroma_red a b c p q r =
    abs_eighth _ (omega (
      arith,
      abs_sub (pos 32768 *ℤ a -ℤ pos 27439 *ℤ b) (pos 5329 *ℤ c),
      abs_sub (pos 32768 *ℤ a) (pos 27439 *ℤ b),
      unsigned_abs-mul (pos 32768) a,
      unsigned_abs-mul (pos 27439) b,
      unsigned_abs-mul (pos 5329) c,
    ))

IsRowOf-component : (f : ℤ → ℤ → ℤ → ℤ) → IsSmall f → (xs ys zs : List ℕ) → length ys ≡ length xs → length zs ≡ length xs → All IsCode xs → All IsCode ys → All IsCode zs
    → IsRowOf IsClamped (length xs) (component f xs ys zs)
unfolding component IsSmall
IsRowOf-component f small [] ys zs e g r s t = record { size = refl; each = All-nil IsClamped }
IsRowOf-component f small (x ∷ xs) [] zs e g r s t = absurd (omega arith)
IsRowOf-component f small (x ∷ xs) (y ∷ ys) [] e g r s t = absurd (omega arith)
IsRowOf-component f small (x ∷ xs) (y ∷ ys) (z ∷ zs) e g r s t =
    let rest = IsRowOf-component f small xs ys zs (omega arith) (omega arith) (All-tail IsCode x xs r) (All-tail IsCode y ys s) (All-tail IsCode z zs t) in
    let first = small (shifted x) (shifted y) (shifted z)
    (abs_shifted x (All-head IsCode x xs r)) (abs_shifted y (All-head IsCode y ys s)) (abs_shifted z (All-head IsCode z zs t)) in
    record {
      size = ap suc rest.size;
      each = All-cons IsClamped (f (shifted x) (shifted y) (shifted z)) (component f xs ys zs) (omega (arith, first)) rest.each;
    }

plane_of : (f : ℤ → ℤ → ℤ → ℤ) → IsSmall f → (n : ℕ) (xs ys zs : List ℕ) → IsRowOf IsCode n xs → IsRowOf IsCode n ys → IsRowOf IsCode n zs → IsRowOf IsClamped n (component f xs ys zs)
plane_of f small n xs ys zs r s t =
    subst (λ m. IsRowOf IsClamped m (component f xs ys zs)) r.size
    (IsRowOf-component f small xs ys zs (s.size ∙ sym r.size) (t.size ∙ sym r.size) r.each s.each t.each)

three_planes : (P : List ℤ → Type 0) (x y z : List ℤ) → P x → P y → P z → All P (x ∷ y ∷ z ∷ [])
three_planes P x y z p q r = All-cons P x (y ∷ z ∷ []) p (All-cons P y (z ∷ []) q (All-cons P z [] r (All-nil P)))

pub picture_planes-are : (shape : Shape) (power : ℕ) (raw : List ℕ) → length raw ≡ shape.width * shape.height * 6
    → All (IsRowOf IsClamped (shape.width * shape.height)) (picture_planes power raw)
picture_planes-are shape power raw whole =
    let n : ℕ = shape.width * shape.height in
    let xs = IsRowOf-xyz_plane power x_weights n raw whole in
    let ys = IsRowOf-xyz_plane power y_weights n raw whole in
    let zs = IsRowOf-xyz_plane power z_weights n raw whole in
    three_planes (IsRowOf IsClamped n) _ _ _ (plane_of luma IsSmall-luma n _ _ _ xs ys zs) (plane_of chroma_blue IsSmall-chroma_blue n _ _ _ xs ys zs)
    (plane_of chroma_red IsSmall-chroma_red n _ _ _ xs ys zs)

-- ---- the parts of the sub-bands lie within the picture

-- along a side, at each of the five levels
abbrev PartFits : ℕ → ℕ → Bool → Type 0
PartFits n level high = band_side_start n level high + band_side n level high ≤ n

low_part : (n level : ℕ) → 1 ≤ level → level ≤ 5 → PartFits n level false
low_part n zero low above = absurd (omega arith)
low_part n (suc zero) low above = omega arith
low_part n (suc (suc zero)) low above = omega arith
low_part n (suc (suc (suc zero))) low above = omega arith
low_part n (suc (suc (suc (suc zero)))) low above = omega arith
low_part n (suc (suc (suc (suc (suc zero))))) low above = omega arith
low_part n (suc (suc (suc (suc (suc (suc level)))))) low above = absurd (omega arith)

high_part : (n level : ℕ) → 1 ≤ level → level ≤ 5 → PartFits n level true
high_part n zero low above = absurd (omega arith)
high_part n (suc zero) low above = omega arith
high_part n (suc (suc zero)) low above = omega arith
high_part n (suc (suc (suc zero))) low above = omega arith
high_part n (suc (suc (suc (suc zero)))) low above = omega arith
high_part n (suc (suc (suc (suc (suc zero))))) low above = omega arith
high_part n (suc (suc (suc (suc (suc (suc level)))))) low above = absurd (omega arith)

part_fits : (n level : ℕ) (high : Bool) → 1 ≤ level → level ≤ 5 → PartFits n level high
part_fits n level false low above = low_part n level low above
part_fits n level true low above = high_part n level low above

-- a sub-band of the picture: its level and its component are there
record IsThere (band : Band) : Type 0 where
  first : 1 ≤ band.level
  last : band.level ≤ 5
  component : band.component ≤ 2

is_there : Band → Bool
is_there band = nat_le 1 band.level && (nat_le band.level 5 && nat_le band.component 2)

there : (band : Band) → is_there band ≡ true → IsThere band
unfolding is_there
there band e =
    let a = and_parts (nat_le 1 band.level) (nat_le band.level 5 && nat_le band.component 2) e in
    let b = and_parts (nat_le band.level 5) (nat_le band.component 2) a.1 in
    record { first = leb-true 1 band.level a.0; last = leb-true band.level 5 b.0; component = leb-true band.component 2 b.1 }

all_there : All IsThere all_bands
unfolding all_bands component_bands resolution_bands is_there
all_there = All-weaker (λ band. is_there band ≡ true) IsThere there all_bands (AllPass-from_list_all is_there all_bands refl)

IsRowOf-quantised_band : (shape : Shape) (planes : List (List (List ℤ))) (band : Band) → IsThere band → IsGridOf IsClamped shape.width shape.height (get_or planes band.component [])
    → IsRowOf (FitsBand band) (band_length shape band) (quantised_band shape planes band)
IsRowOf-quantised_band shape planes band here g =
    let x = part_fits shape.width band.level (is_high_in_rows band.kind) here.first here.last in
    let y = part_fits shape.height band.level (is_high_in_columns band.kind) here.first here.last in
    let part = IsGridOf-part_of IsClamped _ _ (band_columns shape band) (band_rows shape band) shape.width shape.height (get_or planes band.component []) x y g in
    let items = IsRowOf-items_of IsClamped (band_columns shape band) (band_rows shape band) _ part in
    let row = IsRowOf-map IsClamped (FitsBand band) (quantised band) (λ v h. FitsBand-quantised band v) (band_rows shape band * band_columns shape band) _ items in
    record { size = row.size ∙ omega arith; each = row.each }

-- the transformed planes of a picture
AreAreas : Shape → List (List (List ℤ)) → Type 0
AreAreas shape planes = (component : ℕ) → component ≤ 2 → IsGridOf IsClamped shape.width shape.height (get_or planes component [])

bands_quantised : (shape : Shape) (planes : List (List (List ℤ))) → AreAreas shape planes → All (λ band. IsRowOf (FitsBand band) (band_length shape band) (quantised_band shape planes band)) all_bands
unfolding AreAreas
bands_quantised shape planes areas =
    All-weaker IsThere (λ band. IsRowOf (FitsBand band) (band_length shape band) (quantised_band shape planes band))
    (λ band here. IsRowOf-quantised_band shape planes band here (areas band.component here.component)) all_bands all_there

length-quantised_planes : (shape : Shape) (planes : List (List (List ℤ))) → AreAreas shape planes → length (quantised_planes shape planes) ≡ 3 * (shape.width * shape.height)
unfolding quantised_planes
length-quantised_planes shape planes areas =
    length-flat_map (quantised_band shape planes) all_bands
    ∙ (sum_by-same (λ band. length (quantised_band shape planes band)) (band_length shape) all_bands
    (All-weaker (λ band. IsRowOf (FitsBand band) (band_length shape band) (quantised_band shape planes band)) (λ band. length (quantised_band shape planes band) ≡ band_length shape band)
    (λ band r. r.size) all_bands (bands_quantised shape planes areas))
    ∙ sum_by-all_bands shape)

place_at : (bands : List Band) (n k : ℕ) (d : Band) → AreAtPlaces n bands → k < length bands → band_place (get_or bands k d) ≡ n + k
unfolding AreAtPlaces
place_at [] n k d places inside = absurd (omega arith)
place_at (band ∷ bands) n zero d places inside = omega (arith, places.0)
place_at (band ∷ bands) n (suc k) d places inside = omega (arith, place_at bands (suc n) k d places.1 (omega arith))

-- the values of a sub-band are those that were put in its place
band_values-flat_map : (shape : Shape) (f : Band → List ℤ) → All (λ band. length (f band) ≡ band_length shape band) all_bands → All (λ band. band_values shape (flat_map f all_bands) band ≡ f band) all_bands
unfolding band_values
band_values-flat_map shape f sizes = λ k d inside.
    rw (place_at all_bands 0 k d all_at_places inside, zero-add)
    (take-drop-flat_map f (band_length shape) all_bands k d sizes inside)

FitBands-quantised_planes : (shape : Shape) (planes : List (List (List ℤ))) → AreAreas shape planes → FitBands shape (quantised_planes shape planes)
unfolding quantised_planes
FitBands-quantised_planes shape planes areas = λ k d inside.
    let all = bands_quantised shape planes areas in
    let sizes = All-weaker (λ band. IsRowOf (FitsBand band) (band_length shape band) (quantised_band shape planes band)) (λ band. length (quantised_band shape planes band) ≡ band_length shape band)
    (λ band r. r.size) all_bands all in
    subst (All (FitsBand (get_or all_bands k d))) (sym (band_values-flat_map shape (quantised_band shape planes) sizes k d inside)) (all k d inside).each

areas-are : (shape : Shape) (power : ℕ) (raw : List ℕ) → 0 < shape.width → 0 < shape.height → length raw ≡ shape.width * shape.height * 6 → AreAreas shape (map (wave shape) (picture_planes power raw))
unfolding AreAreas
areas-are shape power raw wide high whole =
    let planes = picture_planes-are shape power raw whole in
    let areas = All-map (IsGridOf IsClamped shape.width shape.height) (wave shape) (picture_planes power raw)
    (All-weaker (IsRowOf IsClamped (shape.width * shape.height)) (λ plane. IsGridOf IsClamped shape.width shape.height (wave shape plane))
    (λ plane r. IsGridOf-wave shape plane wide high r.size r.each) (picture_planes power raw) planes) in
    λ component inside. areas component [] (omega arith)

pub length-coefficients : (shape : Shape) (power : ℕ) (raw : List ℕ) → 0 < shape.width → 0 < shape.height → length raw ≡ shape.width * shape.height * 6
    → length (coefficients shape power raw) ≡ 3 * (shape.width * shape.height)
unfolding coefficients
length-coefficients shape power raw wide high whole = length-quantised_planes shape _ (areas-are shape power raw wide high whole)

pub FitBands-coefficients : (shape : Shape) (power : ℕ) (raw : List ℕ) → 0 < shape.width → 0 < shape.height → length raw ≡ shape.width * shape.height * 6
    → FitBands shape (coefficients shape power raw)
unfolding coefficients
FitBands-coefficients shape power raw wide high whole = FitBands-quantised_planes shape _ (areas-are shape power raw wide high whole)
