-- The parts that a level makes of a plane of samples.
--     low_side n, high_side n          how many of n samples in a line become low ones, and how many high ones
--     part_values band area            a sub-band's quantised coefficients, of the area that its level takes apart
use Rattle.std.specs.Prelude.{◌≡◌, ℕ, ◌-◌, ◌*◌, ◌/◌, List, take, map, ℤ}
use Rattle.codec_terms.specs.declared.picture.Band.{Band}
use Rattle.codec_terms.specs.declared.picture.BandKind.{BandKind}
use Rattle.codec_terms.specs.Bands.{band_of}
use Rattle.codec_terms.specs.Grid.{items_of}
use Rattle.codec_terms.specs.Quantiser.{quantised}
use Rattle.wave_laws.specs.Rows.{quadrant}
use Rattle.quantiser.specs.Signed.{signed_values}
use Rattle.wave_level.specs.declared.level.Level.{Level}

abbrev pub low_side : ℕ → ℕ
low_side n = n - n / 2

abbrev pub high_side : ℕ → ℕ
high_side n = n / 2

abbrev pub band_at : Level → BandKind → Band
band_at level kind = band_of level.component level.number kind

unfoldable pub part_values : Band → List (List ℤ) → List ℤ
part_values band area = map (quantised band) (items_of (quadrant band.kind area))

-- so many of a plane's first rows
abbrev pub first_rows : {A : Type 0} → ℕ → ℕ → List A → List A
first_rows columns count plane = take (count * columns) plane

-- a plane's first k rows are those of a grid; the words of its first k rows are those of a grid's samples
pub record HasRows (columns k : ℕ) (grid : List (List ℤ)) (plane : List ℤ) : Type 0 where
  pub rows : first_rows columns k plane ≡ items_of (take k grid)

pub record HasWords (band : Band) (columns k : ℕ) (grid : List (List ℤ)) (words : List ℕ) : Type 0 where
  pub rows : signed_values (first_rows columns k words) ≡ map (quantised band) (items_of (take k grid))
