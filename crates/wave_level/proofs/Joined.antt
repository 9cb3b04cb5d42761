-- The coefficients of three components, one behind the other.
use Rattle.std.proofs.Common.{◌≡◌, ℕ, sym, ap, ap₂, ◌∙◌, List, [], ◌∷◌, ◌++◌, map, ℤ, append-nil}
use Rattle.std.specs.List.{flat_map}
use Rattle.std.proofs.lemmas.Grind.{flat_map-append}
use Rattle.codec_terms.specs.declared.picture.Shape.{Shape}
use Rattle.codec_terms.specs.declared.picture.Band.{Band}
use Rattle.codec_terms.specs.Bands.{all_bands, component_bands}
use Rattle.codec_terms.specs.Colour.{x_weights, y_weights, z_weights, xyz_plane}
use Rattle.codec_terms.specs.Quantiser.{quantised}
use Rattle.codec_terms.specs.Wavelet.{luma, chroma_blue, chroma_red, component}
use Rattle.codec_terms.specs.Encode.{wave, band_part, quantised_band, quantised_planes, coefficients}
use Rattle.wave_level.specs.Component.{component_values}
use Rattle.wave_level.proofs.Order.{in_order}

by_components : (f : Band → List ℤ) → flat_map f all_bands ≡ flat_map f (component_bands 0) ++ (flat_map f (component_bands 1) ++ flat_map f (component_bands 2))
unfolding all_bands
by_components f =
    flat_map-append f (component_bands 0) (component_bands 1 ++ (component_bands 2 ++ []))
    ∙ ap (λ (xs : List ℤ). flat_map f (component_bands 0) ++ xs)
    (flat_map-append f (component_bands 1) (component_bands 2 ++ [])
    ∙ ap (λ (bands : List Band). flat_map f (component_bands 1) ++ flat_map f bands) (append-nil (component_bands 2)))

own : (shape : Shape) (area : List (List ℤ)) (band : Band) → List ℤ
own shape area band = map (quantised band) (band_part shape area band)

pub quantised_planes-joined : (shape : Shape) (a b c : List (List ℤ)) → quantised_planes shape (a ∷ b ∷ c ∷ []) ≡ component_values shape 0 a ++ (component_values shape 1 b ++ component_values shape 2 c)
unfolding quantised_planes own
quantised_planes-joined shape a b c =
    let f : Band → List ℤ = quantised_band shape (a ∷ b ∷ c ∷ []) in
    by_components f
    ∙ ap₂ (λ (x y : List ℤ). x ++ y) (in_order f 0 ∙ sym (in_order (own shape a) 0))
    (ap₂ (λ (x y : List ℤ). x ++ y) (in_order f 1 ∙ sym (in_order (own shape b) 1)) (in_order f 2 ∙ sym (in_order (own shape c) 2)))

pub coefficients-joined : (shape : Shape) (power : ℕ) (raw : List ℕ)
    → let xs = xyz_plane power x_weights raw in
    let ys = xyz_plane power y_weights raw in
    let zs = xyz_plane power z_weights raw in
    coefficients shape power raw
    ≡ component_values shape 0 (wave shape (component luma xs ys zs))
    ++ (component_values shape 1 (wave shape (component chroma_blue xs ys zs)) ++ component_values shape 2 (wave shape (component chroma_red xs ys zs)))
unfolding coefficients
coefficients-joined shape power raw = quantised_planes-joined shape _ _ _
