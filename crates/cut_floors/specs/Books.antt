-- What a book of floors has.
use Rattle.std.specs.Prelude.{◌≡◌, ◌<◌, ℕ, ◌/◌, ◌%◌, List, ℤ, length, slice_index}
use Rattle.codec_terms.specs.declared.picture.Shape.{Shape}
use Rattle.floor_laws.specs.Floors.{resolution_floor}
use Rattle.cut_floors.specs.declared.book.FloorBook.{FloorBook}

-- these are the floors at the 18 places, six for each component
pub record HasFloors (shape : Shape) (q : List ℤ) (cut : ℕ) (packets : List ℕ) : Type 0 where
  pub count : length packets ≡ 18
  pub each : (place : ℕ) → place < 18 → slice_index packets place ≡ resolution_floor shape q cut (place / 6) (place % 6)

-- a book of the floors of these coefficients at its cut
abbrev pub IsFloorBookOf : Shape → List ℤ → FloorBook → Type 0
IsFloorBookOf shape q book = HasFloors shape q book.cut book.packets
