-- A plane of samples, row by row.
use Rattle.std.specs.Prelude.{ℕ, ◌*◌, List, take, drop, ℤ}

-- row y of a plane of so many columns
abbrev pub row_in : ℕ → List ℤ → ℕ → List ℤ
row_in columns plane y = take columns (drop (y * columns) plane)
