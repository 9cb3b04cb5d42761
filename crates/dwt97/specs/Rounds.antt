-- How far the rows of a plane are lifted while the lifting steps of its columns go on.
use Rattle.std.specs.Prelude.{◌≡◌, ℕ, ◌+◌, ◌*◌, ◌%◌, ◌<◌, ◌≤◌, All, List, ℤ}
use Rattle.wave_laws.specs.Rows.{row_at, row_after}
use Rattle.dwt97.specs.Lifting.{AreBounded}
use Rattle.dwt97.specs.Plane.{row_in}

-- The rows of an area whose first rows are made: odd rows in front of `first` had step 1, and in front of `third` step 3; even
-- rows in front of `second` had step 2, and in front of `fourth` step 4.
pub record AreLifted (area : List (List ℤ)) (columns made first second third fourth : ℕ) (plane : List ℤ) : Type 0 where
  pub odd_raw : (y : ℕ) → y < made → y % 2 ≡ 1 → first ≤ y → row_in columns plane y ≡ row_at area y
  pub odd_once : (y : ℕ) → y < made → y % 2 ≡ 1 → third ≤ y → y < first → row_in columns plane y ≡ row_after 1 area y
  pub odd_twice : (y : ℕ) → y < made → y % 2 ≡ 1 → y < third → row_in columns plane y ≡ row_after 3 area y
  pub even_raw : (y : ℕ) → y < made → y % 2 ≡ 0 → second ≤ y → row_in columns plane y ≡ row_at area y
  pub even_once : (y : ℕ) → y < made → y % 2 ≡ 0 → fourth ≤ y → y < second → row_in columns plane y ≡ row_after 2 area y
  pub even_twice : (y : ℕ) → y < made → y % 2 ≡ 0 → y < fourth → row_in columns plane y ≡ row_after 4 area y

-- the first rows of a plane are those of an area
abbrev pub IsMade : List (List ℤ) → ℕ → ℕ → List ℤ → Type 0
IsMade area columns made plane = (y : ℕ) → y < made → row_in columns plane y ≡ row_at area y

-- Before round j rows below 2j are done, row 2j had step 2, row 2j + 1 step 1, and the rows below it are as they were made.
abbrev pub IsBeforeRound : ℕ → List (List ℤ) → ℕ → ℕ → List ℤ → Type 0
IsBeforeRound j area columns made plane = AreLifted area columns made (2 * j + 3) (2 * j + 2) (2 * j + 1) (2 * j) plane

-- an area whose columns can be lifted in 32 bits
abbrev pub IsLiftable : List (List ℤ) → Type 0
IsLiftable area = All (AreBounded 150000000) area
