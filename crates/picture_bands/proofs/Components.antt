-- From planes of components to words of sub-bands.
use Rattle.std.proofs.Common.{◌≡◌, ℕ, ◌^◌, sym, ap, ap₂, ◌∙◌, arith, List, [], ◌∷◌, ◌++◌, length, take, drop, map, All}
use Rattle.std.proofs.lemmas.List.{map-append, take-map, drop-map, take_at}
use Rattle.std.proofs.lemmas.List.Elements.{All-head, All-tail, All-weaker}
use Rattle.std.specs.Prelude.{ℤ}
use Rattle.codec_terms.specs.declared.picture.Shape.{Shape}
use Rattle.codec_terms.specs.declared.picture.Band.{Band}
use Rattle.codec_terms.specs.Bands.{band_length, band_start, band_values}
use Rattle.codec_terms.specs.Encode.{picture_planes, wave, quantised_planes, coefficients}
use Rattle.codec_laws.specs.Bounds.{IsClamped}
use Rattle.wave_laws.specs.Ranges.{IsWithin}
use Rattle.quantiser.specs.Signed.{signed_value, signed_values}
use Rattle.wave_level.specs.Component.{component_values}
use Rattle.wave_level.proofs.Joined.{quantised_planes-joined}

-- ---- words, component by component

pub words_by_components : (shape : Shape) (a b c : List ℤ) (x y z : List ℕ)
    → signed_values x ≡ component_values shape 0 (wave shape a) → signed_values y ≡ component_values shape 1 (wave shape b) → signed_values z ≡ component_values shape 2 (wave shape c)
    → signed_values (x ++ (y ++ z)) ≡ quantised_planes shape (map (wave shape) (a ∷ b ∷ c ∷ []))
words_by_components shape a b c x y z p q r =
    map-append signed_value x (y ++ z)
    ∙ (ap₂ (λ (xs ys : List ℤ). xs ++ ys) p (map-append signed_value y z ∙ ap₂ (λ (xs ys : List ℤ). xs ++ ys) q r)
    ∙ sym (quantised_planes-joined shape (wave shape a) (wave shape b) (wave shape c)))

-- what a vector holds behind a call that was lent all of it
pub held_coefficients : (shape : Shape) (power : ℕ) (raw new old : List ℕ) (len : ℕ) (planes : List (List ℤ)) → length new ≡ len
    → signed_values new ≡ quantised_planes shape (map (wave shape) planes) → planes ≡ picture_planes power raw
    → signed_values (take len (new ++ drop (length new) old)) ≡ coefficients shape power raw
unfolding coefficients
held_coefficients shape power raw new old len planes size is same =
    ap signed_values (take_at new (drop (length new) old) len size) ∙ (is ∙ ap (λ (ps : List (List ℤ)). quantised_planes shape (map (wave shape) ps)) same)

pub record ThreeClamped (a b c : List ℤ) : Type 0 where
  pub first : All IsClamped a
  pub second : All IsClamped b
  pub third : All IsClamped c

clamped : (plane : List ℤ) → All (IsWithin (2 ^ 24)) plane → All IsClamped plane
clamped plane within = All-weaker (IsWithin (2 ^ 24)) IsClamped (λ v h. omega arith) plane within

pub three_clamped : (a b c : List ℤ) → All (All (IsWithin (2 ^ 24))) (a ∷ b ∷ c ∷ []) → ThreeClamped a b c
three_clamped a b c all =
    let P : List ℤ → Type 0 = All (IsWithin (2 ^ 24)) in
    let rest = All-tail P a (b ∷ c ∷ []) all in
    record {
      first = clamped a (All-head P a (b ∷ c ∷ []) all);
      second = clamped b (All-head P b (c ∷ []) rest);
      third = clamped c (All-head P c [] (All-tail P b (c ∷ []) rest));
    }

-- ---- one sub-band's words

pub band_words : (shape : Shape) (band : Band) (words list : List ℕ) (start long : ℕ) → list ≡ words → start ≡ band_start shape band → long ≡ band_length shape band
    → signed_values (take long (drop start list)) ≡ band_values shape (signed_values words) band
unfolding band_values
band_words shape band words list start long e p q =
    ap (λ (xs : List ℕ). signed_values (take long (drop start xs))) e
    ∙ (ap₂ (λ (n m : ℕ). signed_values (take n (drop m words))) q p
    ∙ (sym (take-map signed_value (band_length shape band) (drop (band_start shape band) words))
    ∙ ap (take (band_length shape band)) (sym (drop-map signed_value (band_start shape band) words))))
