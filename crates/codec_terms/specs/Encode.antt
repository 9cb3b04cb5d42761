-- From a picture's raw bytes to its codestream.
--     coefficients shape power raw           the quantised coefficients
--     task_cut task, encoding task           the cut and the codestream of a task
--     kept_coefficients shape cut q          what of coefficients q is kept at a cut
use Rattle.std.specs.Prelude.{ℕ, ◌^◌, Bool, if◌then◌else◌, List, [], ◌∷◌, map, slice_index_or, ℤ}
use Rattle.std.specs.Int.{div_ceil}
use Rattle.std.specs.List.{flat_map}
use Rattle.codec_terms.specs.declared.picture.Shape.{Shape}
use Rattle.codec_terms.specs.declared.picture.Band.{Band}
use Rattle.codec_terms.specs.declared.picture.Params.{Params}
use Rattle.codec_terms.specs.declared.picture.Task.{Task}
use Rattle.codec_terms.specs.Colour.{x_weights, y_weights, z_weights, xyz_plane}
use Rattle.codec_terms.specs.Wavelet.{luma, chroma_blue, chroma_red, component, transformed}
use Rattle.codec_terms.specs.Grid.{grid_of, items_of, part_of}
use Rattle.codec_terms.specs.Bands.{is_high_in_rows, is_high_in_columns, band_columns, band_rows, lowest_plane, all_bands, band_values}
use Rattle.codec_terms.specs.Quantiser.{quantised, kept}
use Rattle.codec_terms.specs.Codestream.{stream}
use Rattle.codec_terms.specs.Cut.{least_cut}

-- ---- planes

-- of components 0, 1 and 2, from planes of X', Y' and Z'
abbrev pub component_planes : List ℕ → List ℕ → List ℕ → List (List ℤ)
component_planes xs ys zs =
    component luma xs ys zs ∷ component chroma_blue xs ys zs ∷ component chroma_red xs ys zs ∷ []

abbrev pub picture_planes : ℕ → List ℕ → List (List ℤ)
picture_planes power raw =
    component_planes (xyz_plane power x_weights raw) (xyz_plane power y_weights raw)
    (xyz_plane power z_weights raw)

-- five levels (Annex F.4.1)
unfoldable pub wave : Shape → List ℤ → List (List ℤ)
wave shape plane = transformed 5 shape.width shape.height (grid_of shape.width shape.height plane)

-- ---- sub-bands, as five levels leave them: the low part of each direction comes first

abbrev pub band_side_start : ℕ → ℕ → Bool → ℕ
band_side_start n level high = if high then div_ceil n (2 ^ level) else 0

abbrev pub band_part : Shape → List (List ℤ) → Band → List ℤ
band_part shape area band =
    items_of (part_of (band_side_start shape.width band.level (is_high_in_rows band.kind))
    (band_side_start shape.height band.level (is_high_in_columns band.kind)) (band_columns shape band)
    (band_rows shape band) area)

-- the quantised coefficients, of the transformed planes of the components
abbrev pub quantised_band : Shape → List (List (List ℤ)) → Band → List ℤ
quantised_band shape planes band =
    map (quantised band) (band_part shape (slice_index_or planes band.component []) band)

unfoldable pub quantised_planes : Shape → List (List (List ℤ)) → List ℤ
quantised_planes shape planes = flat_map (quantised_band shape planes) all_bands

unfoldable pub coefficients : Shape → ℕ → List ℕ → List ℤ
coefficients shape power raw = quantised_planes shape (map (wave shape) (picture_planes power raw))

-- ---- tasks

abbrev pub shape_of : Params → Shape
shape_of params = record { width = params.width; height = params.height }

abbrev pub task_coefficients : Task → List ℤ
task_coefficients task = coefficients (shape_of task.params) task.params.power task.raw

unfoldable pub task_cut : Task → ℕ
task_cut task = least_cut task.params.limits (shape_of task.params) (task_coefficients task)

unfoldable pub encoding : Task → List ℕ
encoding task = stream (shape_of task.params) (task_coefficients task) (task_cut task)

-- ---- what a cut keeps

abbrev pub kept_band : Shape → ℕ → List ℤ → Band → List ℤ
kept_band shape cut q band = map (kept (lowest_plane cut band)) (band_values shape q band)

unfoldable pub kept_coefficients : Shape → ℕ → List ℤ → List ℤ
kept_coefficients shape cut q = flat_map (kept_band shape cut q) all_bands
