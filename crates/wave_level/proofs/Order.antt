-- A component's sub-bands, in the order of the definition.
use Rattle.std.proofs.Common.{◌≡◌, ℕ, zero, suc, ◌*◌, ◌-◌, ◌≤◌, refl, sym, ap, ap₂, ◌∙◌, arith, List, [], ◌∷◌, ◌++◌, length, map, ℤ, All, append_assoc, append-nil}
use Rattle.std.specs.List.{flat_map}
use Rattle.std.proofs.lemmas.List.Elements.{All-head, All-tail, All-from_recursion}
use Rattle.codec_terms.specs.declared.picture.Shape.{Shape}
use Rattle.codec_terms.specs.declared.picture.Band.{Band}
use Rattle.codec_terms.specs.declared.picture.BandKind.TheVariants.{LL, HL, LH, HH}
use Rattle.codec_terms.specs.Bands.{band_of, component_bands, resolution_bands}
use Rattle.codec_terms.specs.Grid.{grid_of}
use Rattle.codec_terms.specs.Encode.{wave, band_part}
use Rattle.codec_terms.specs.Quantiser.{quantised}
use Rattle.codec_laws.proofs.Lists.{All-flat_map}
use Rattle.wave_laws.specs.Rows.{low_area, quadrant}
use Rattle.wave_laws.specs.SubBands.{IsSubBand}
use Rattle.wave_laws.proofs.SubBands.{band_part-wave}
use Rattle.wave_level.specs.Parts.{part_values}
use Rattle.wave_level.specs.Component.{level_values, values_behind, component_values}

-- ---- all of a component's are sub-bands

resolution_sub_bands : (component r : ℕ) → r ≤ 5 → All IsSubBand (resolution_bands component r)
unfolding resolution_bands
resolution_sub_bands component zero few =
    All-from_recursion IsSubBand (resolution_bands component 0) (record { first = omega arith; last = omega arith; low = λ e. refl }, tt)
resolution_sub_bands component (suc r) few =
    All-from_recursion IsSubBand (resolution_bands component (suc r))
    (record { first = omega arith; last = omega arith; low = λ e. cc }, (record { first = omega arith; last = omega arith; low = λ e. cc }, (record { first = omega arith; last = omega arith; low = λ e. cc }, tt)))

component_sub_bands : (component : ℕ) → All IsSubBand (component_bands component)
unfolding component_bands
component_sub_bands component =
    let each : (r : ℕ) → r ≤ 5 → All IsSubBand (resolution_bands component r) = resolution_sub_bands component in
    All-flat_map IsSubBand (resolution_bands component) (0 ∷ 1 ∷ 2 ∷ 3 ∷ 4 ∷ 5 ∷ [])
    (All-from_recursion (λ r. All IsSubBand (resolution_bands component r)) (0 ∷ 1 ∷ 2 ∷ 3 ∷ 4 ∷ 5 ∷ [])
    (each 0 (omega arith), (each 1 (omega arith), (each 2 (omega arith), (each 3 (omega arith), (each 4 (omega arith), (each 5 (omega arith), tt)))))))

-- ---- each is what its level makes

flat_map-same : {A B : Type 0} (P : A → Type 0) (f g : A → List B) (xs : List A) → All P xs → ((x : A) → P x → f x ≡ g x) → flat_map f xs ≡ flat_map g xs
flat_map-same P f g [] each same = refl
flat_map-same {A} {B} P f g (x ∷ xs) each same =
    ap₂ (λ (ys zs : List B). ys ++ zs) (same x (All-head P x xs each)) (flat_map-same P f g xs (All-tail P x xs each) same)

-- the coefficients of a sub-band, by the area that its level takes apart
unfoldable own_values : List (List ℤ) → Band → List ℤ
own_values area band = part_values band (low_area (band.level - 1) area)

own_is : (shape : Shape) (plane : List ℤ) (band : Band) → 17 ≤ shape.width → 17 ≤ shape.height → length plane ≡ shape.width * shape.height → IsSubBand band
    → map (quantised band) (band_part shape (wave shape plane) band) ≡ own_values (grid_of shape.width shape.height plane) band
unfolding own_values part_values
own_is shape plane band wide high whole b = ap (map (quantised band)) (band_part-wave shape plane band wide high whole b)

-- ---- the order

pub in_order : (f : Band → List ℤ) (component : ℕ) → flat_map f (component_bands component)
    ≡ (((((f (band_of component 5 LL)
    ++ (f (band_of component 5 HL) ++ (f (band_of component 5 LH) ++ f (band_of component 5 HH))))
    ++ (f (band_of component 4 HL) ++ (f (band_of component 4 LH) ++ f (band_of component 4 HH))))
    ++ (f (band_of component 3 HL) ++ (f (band_of component 3 LH) ++ f (band_of component 3 HH))))
    ++ (f (band_of component 2 HL) ++ (f (band_of component 2 LH) ++ f (band_of component 2 HH))))
    ++ (f (band_of component 1 HL) ++ (f (band_of component 1 LH) ++ f (band_of component 1 HH))))
unfolding component_bands resolution_bands
in_order f component = simp (append_assoc, append-nil)

by_levels : (component : ℕ) (area : List (List ℤ)) → flat_map (own_values area) (component_bands component) ≡ values_behind component 4 area
unfolding own_values level_values values_behind low_area
by_levels component area = in_order (own_values area) component

pub component_values-is : (shape : Shape) (component : ℕ) (plane : List ℤ) → 17 ≤ shape.width → 17 ≤ shape.height → length plane ≡ shape.width * shape.height
    → values_behind component 4 (grid_of shape.width shape.height plane) ≡ component_values shape component (wave shape plane)
component_values-is shape component plane wide high whole =
    sym (flat_map-same IsSubBand (λ band. map (quantised band) (band_part shape (wave shape plane) band)) (own_values (grid_of shape.width shape.height plane)) (component_bands component)
    (component_sub_bands component) (λ band b. own_is shape plane band wide high whole b)
    ∙ by_levels component (grid_of shape.width shape.height plane))

-- the first level, and those behind it
pub first_and_behind : (shape : Shape) (component : ℕ) (plane : List ℤ) → 17 ≤ shape.width → 17 ≤ shape.height → length plane ≡ shape.width * shape.height
    → component_values shape component (wave shape plane)
    ≡ values_behind component 3 (quadrant LL (grid_of shape.width shape.height plane)) ++ level_values component 1 (grid_of shape.width shape.height plane)
unfolding values_behind
first_and_behind shape component plane wide high whole = sym (component_values-is shape component plane wide high whole)
