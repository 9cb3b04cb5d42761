-- All levels of a component.
--     level_values component number area       the coefficients of a level's three sub-bands
--     values_behind component n area           those of a level and of the n ones behind it, LL first
--     component_values shape component area    those of a component that five levels have transformed
--     room_for shape                           how many samples of room a component takes
use Rattle.std.specs.Prelude.{ℕ, zero, suc, ◌+◌, ◌-◌, ◌*◌, List, ◌++◌, map, ℤ}
use Rattle.std.specs.List.{flat_map}
use Rattle.codec_terms.specs.declared.picture.Shape.{Shape}
use Rattle.codec_terms.specs.declared.picture.BandKind.TheVariants.{LL, HL, LH, HH}
use Rattle.codec_terms.specs.Bands.{band_of, component_bands}
use Rattle.codec_terms.specs.Encode.{band_part}
use Rattle.codec_terms.specs.Quantiser.{quantised}
use Rattle.wave_laws.specs.Rows.{quadrant}
use Rattle.wave_level.specs.declared.level.Level.{Level}
use Rattle.wave_level.specs.Parts.{low_side, part_values}

unfoldable pub level_values : ℕ → ℕ → List (List ℤ) → List ℤ
level_values component number area =
    part_values (band_of component number HL) area ++ (part_values (band_of component number LH) area ++ part_values (band_of component number HH) area)

unfoldable pub values_behind : ℕ → ℕ → List (List ℤ) → List ℤ
values_behind component zero area = part_values (band_of component 5 LL) area ++ level_values component 5 area
values_behind component (suc n) area = values_behind component n (quadrant LL area) ++ level_values component (5 - suc n) area

abbrev pub component_values : Shape → ℕ → List (List ℤ) → List ℤ
component_values shape component area = flat_map (λ band. map (quantised band) (band_part shape area band)) (component_bands component)

-- the low-low planes of a level and of the n ones behind it
unfoldable pub low_room : ℕ → ℕ → ℕ → ℕ
low_room zero columns rows = low_side rows * low_side columns
low_room (suc n) columns rows = low_side rows * low_side columns + low_room n (low_side columns) (low_side rows)

abbrev pub room_for : Shape → ℕ
room_for shape = shape.width + low_room 4 shape.width shape.height

abbrev pub first_of : ℕ → Shape → Level
first_of component shape = record { component = component; number = 1; columns = shape.width; rows = shape.height }
