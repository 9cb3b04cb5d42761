-- The words of a picture's coefficients.
use Rattle.std.proofs.Common.{◌≡◌, ℕ, ◌+◌, ◌*◌, ◌^◌, ◌<◌, ◌≤◌, sym, ap₂, ◌∙◌, subst, arith, List, [], ◌∷◌, ◌++◌, length, take, get_or, All, ℤ, pos, negsuc, unsigned_abs, pow_mono, w32, to_z, of_z}
use Rattle.std.proofs.lemmas.Int.{ints}
use Rattle.std.proofs.lemmas.List.{map-append, take_more}
use Rattle.std.proofs.lemmas.List.Elements.{All-weaker}
use Rattle.codec_terms.specs.declared.picture.Shape.{Shape}
use Rattle.codec_terms.specs.declared.picture.Band.{Band}
use Rattle.codec_terms.specs.Bands.{band_values, plane_limit, all_bands}
use Rattle.codec_terms.proofs.CoefficientLaws.{flat_map-band_values}
use Rattle.codec_laws.specs.Bounds.{FitsBand, FitBands}
use Rattle.codec_laws.proofs.Lists.{All-flat_map}
use Rattle.codec_laws.proofs.Planes.{plane_limit-small}
use Rattle.quantiser.specs.Signed.{signed_value, signed_values}

-- fifteen bits hold each coefficient
small_in : (band : Band) (values : List ℤ) → All (FitsBand band) values → All (λ v. unsigned_abs v < 2 ^ 15) values
small_in band values fits =
    let wide : 2 ^ plane_limit band ≤ 2 ^ 15 = pow_mono (plane_limit-small band) in
    All-weaker (FitsBand band) (λ v. unsigned_abs v < 2 ^ 15) (λ v small. omega (arith, small, wide)) values fits

pub all_small : (shape : Shape) (q : List ℤ) → length q ≡ 3 * (shape.width * shape.height) → FitBands shape q → All (λ v. unsigned_abs v < 2 ^ 15) q
all_small shape q whole fits =
    subst (All (λ v. unsigned_abs v < 2 ^ 15)) (flat_map-band_values shape q whole)
    (All-flat_map (λ v. unsigned_abs v < 2 ^ 15) (band_values shape q) all_bands
    (All-weaker (λ band. All (FitsBand band) (band_values shape q band)) (λ band. All (λ v. unsigned_abs v < 2 ^ 15) (band_values shape q band))
    (λ band each. small_in band (band_values shape q band) each) all_bands fits))

-- a value that is small is what its 32 bits say
pub small_word : (v : ℤ) → unsigned_abs v < 2 ^ 15 → to_z w32 (of_z w32 v) ≡ v
small_word (pos n) small = omega (arith, ints)
small_word (negsuc n) small = omega (arith, ints)

-- one word more
pub word_more : (values : List ℤ) (words : List ℕ) (i word : ℕ) → signed_values words ≡ take i values → i < length values → signed_value word ≡ get_or values i (pos 0)
    → signed_values (words ++ word ∷ []) ≡ take (i + 1) values
word_more values words i word done inside is =
    map-append signed_value words (word ∷ [])
    ∙ (ap₂ (λ (xs : List ℤ) (x : ℤ). xs ++ x ∷ []) done is ∙ sym (take_more values i (pos 0) inside))
