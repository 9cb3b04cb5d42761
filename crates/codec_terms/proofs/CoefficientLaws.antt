-- A picture's coefficients are those of its sub-bands in turn, and cut 0 keeps them all.
use Rattle.std.proofs.Common.{◌≡◌, ℕ, ◌+◌, ◌*◌, refl, sym, ap, ap₂, subst, arith, ◌∙◌, suc, List, [], ◌∷◌, ◌++◌, length, take, drop, map, append_assoc, length-append}
use Rattle.std.specs.Prelude.{ℤ, sum_by}
use Rattle.std.specs.List.{flat_map}
use Rattle.std.proofs.lemmas.List.{drop-drop}
use Rattle.std.proofs.Math.Seq.{take-add, take-append_seam, take-length}
use Rattle.std.proofs.lemmas.List.Sums.{sum_by-cons, sum_by-append}
use Rattle.codec_terms.specs.declared.picture.Shape.{Shape}
use Rattle.codec_terms.specs.declared.picture.Band.{Band}
use Rattle.codec_terms.specs.Bands.{band_length, band_place, band_start, band_values, all_bands, component_bands, resolution_bands, lowest_plane}
use Rattle.codec_terms.specs.Quantiser.{kept}
use Rattle.codec_terms.specs.Encode.{kept_band, kept_coefficients}
use Rattle.codec_terms.proofs.BandLaws.{sum_by-component_bands}
use Rattle.codec_terms.proofs.QuantiserLaws.{kept-cut_zero}

-- each of these sub-bands has the place that it has here, from n on
unfoldable pub AreAtPlaces : ℕ → List Band → Type 0
AreAtPlaces n [] = Unit {0}
AreAtPlaces n (band ∷ bands) = (band_place band ≡ n) × AreAtPlaces (suc n) bands

pub all_at_places : AreAtPlaces 0 all_bands
unfolding AreAtPlaces all_bands component_bands resolution_bands
all_at_places = (refl, (refl, (refl, (refl, (refl, (refl, (refl, (refl, (refl, (refl, (refl, (refl, (refl, (refl, (refl, (refl, (refl, (refl, (refl, (refl, (refl, (refl, (refl, (refl, (refl, (refl, (refl, (refl, (refl, (refl, (refl, (refl, (refl, (refl, (refl, (refl, (refl, (refl, (refl, (refl, (refl, (refl, (refl, (refl, (refl, (refl, (refl, (refl, tt))))))))))))))))))))))))))))))))))))))))))))))))

-- the values of those that are left, behind those of the ones that are done
values_from : (shape : Shape) (q : List ℤ) (done rest : List Band) → done ++ rest ≡ all_bands → AreAtPlaces (length done) rest
    → flat_map (band_values shape q) rest ≡ take (sum_by (band_length shape) rest) (drop (sum_by (band_length shape) done) q)
unfolding AreAtPlaces band_values
values_from shape q done [] e places = refl
values_from shape q done (band ∷ bands) e places =
    let here : band_start shape band ≡ sum_by (band_length shape) done =
    ap (λ (n : ℕ). sum_by (band_length shape) (take n all_bands)) places.0
    ∙ (ap (λ (bs : List Band). sum_by (band_length shape) (take (length done) bs)) (sym e) ∙ ap (sum_by (band_length shape)) (take-append_seam done (band ∷ bands))) in
    let longer : suc (length done) ≡ length (done ++ band ∷ []) = rw (length-append done (band ∷ [])) (omega arith) in
    let sums : sum_by (band_length shape) (done ++ band ∷ []) ≡ sum_by (band_length shape) done + band_length shape band =
    let alone : sum_by (band_length shape) (band ∷ []) ≡ band_length shape band = omega arith in
    sum_by-append (band_length shape) done (band ∷ []) ∙ ap (λ (n : ℕ). sum_by (band_length shape) done + n) alone in
    let next = values_from shape q (done ++ band ∷ []) bands (rw append_assoc e) (subst (λ (n : ℕ). AreAtPlaces n bands) longer places.1) in
    rw (here, next, sums, sum_by-cons (band_length shape) band bands, take-add (band_length shape band) (sum_by (band_length shape) bands) (drop (sum_by (band_length shape) done) q), drop-drop (band_length shape band) (sum_by (band_length shape) done) q) refl

three_components : all_bands ≡ component_bands 0 ++ (component_bands 1 ++ (component_bands 2 ++ []))
unfolding all_bands
three_components = refl

three_sums : (a b c d e t s : ℕ) → t ≡ a + d → d ≡ b + e → e ≡ c + 0 → a ≡ s → b ≡ s → c ≡ s → t ≡ 3 * s
three_sums a b c d e t s p q r u v w = omega arith

pub sum_by-all_bands : (shape : Shape) → sum_by (band_length shape) all_bands ≡ 3 * (shape.width * shape.height)
sum_by-all_bands shape =
    three_sums _ _ _ _ _ _ _
    (ap (sum_by (band_length shape)) three_components ∙ sum_by-append (band_length shape) (component_bands 0) (component_bands 1 ++ (component_bands 2 ++ [])))
    (sum_by-append (band_length shape) (component_bands 1) (component_bands 2 ++ []))
    (sum_by-append (band_length shape) (component_bands 2) [])
    (sum_by-component_bands shape 0) (sum_by-component_bands shape 1) (sum_by-component_bands shape 2)

pub flat_map-band_values : (shape : Shape) (q : List ℤ) → length q ≡ 3 * (shape.width * shape.height) → flat_map (band_values shape q) all_bands ≡ q
flat_map-band_values shape q whole =
    values_from shape q [] all_bands refl all_at_places
    ∙ (ap (λ (n : ℕ). take n q) (sum_by-all_bands shape ∙ sym whole) ∙ take-length q)

kept_as_it_is : (band : Band) (values : List ℤ) → map (kept (lowest_plane 0 band)) values ≡ values
kept_as_it_is band [] = refl
kept_as_it_is band (v ∷ values) = ap₂ (λ (x : ℤ) (xs : List ℤ). x ∷ xs) (kept-cut_zero band v) (kept_as_it_is band values)

all_kept : (shape : Shape) (q : List ℤ) (bands : List Band) → flat_map (kept_band shape 0 q) bands ≡ flat_map (band_values shape q) bands
all_kept shape q [] = refl
all_kept shape q (band ∷ bands) = ap₂ (λ (xs ys : List ℤ). xs ++ ys) (kept_as_it_is band (band_values shape q band)) (all_kept shape q bands)

pub kept_coefficients-zero : (shape : Shape) (q : List ℤ) → length q ≡ 3 * (shape.width * shape.height) → kept_coefficients shape 0 q ≡ q
unfolding kept_coefficients
kept_coefficients-zero shape q whole = all_kept shape q all_bands ∙ flat_map-band_values shape q whole
