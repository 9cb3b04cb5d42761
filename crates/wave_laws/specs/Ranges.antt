-- How great samples become.
use Rattle.std.specs.Prelude.{◌<◌, ◌≤◌, ℕ, suc, ◌*◌, ◌/◌, ◌^◌, List, All, length, ℤ, unsigned_abs}
use Rattle.wave_laws.specs.Rows.{odd_once, even_once, odd_twice, even_twice, low_samples, high_samples}

-- not further from 0 than m
abbrev pub IsWithin : ℕ → ℤ → Type 0
IsWithin m v = unsigned_abs v ≤ m

-- not further from 0 than n thousandths of m
abbrev pub IsAtMost : ℕ → ℕ → ℤ → Type 0
IsAtMost n m v = 1000 * unsigned_abs v ≤ n * m

-- what samples that were within m are within after the five steps of columns
abbrev pub after_columns : ℕ → ℕ
after_columns m = 2696 * m / 1000

-- all steps of a line within this leave samples whose sums of two fit 32 bits
abbrev pub line_limit : ℕ
line_limit = 250000000

-- the sum of two such samples fits 32 bits
abbrev pub HasRoom : ℤ → Type 0
HasRoom v = unsigned_abs v < 2 ^ 30

-- samples within m, by turns the even and the odd ones of a line
pub record AreHalvesWithin (m : ℕ) (even odd : List ℤ) : Type 0 where
  pub fewer : length odd ≤ length even
  pub most : length even ≤ suc (length odd)
  pub evens : All (IsWithin m) even
  pub odds : All (IsWithin m) odd

-- all samples that the five steps make of a line have room
pub record HaveRoom (even odd : List ℤ) : Type 0 where
  pub first : All HasRoom (odd_once even odd)
  pub second : All HasRoom (even_once even odd)
  pub third : All HasRoom (odd_twice even odd)
  pub fourth : All HasRoom (even_twice even odd)
  pub low : All HasRoom (low_samples even odd)
  pub high : All HasRoom (high_samples even odd)
