-- What the tables hold.
use Rattle.std.specs.Prelude.{◌≡◌, ℕ, ◌+◌, ◌-◌, ◌*◌, ◌/◌, ◌^◌, ◌<◌, ◌≤◌, max, nat_lt, if◌then◌else◌, List, length, map, slice_index}
use Rattle.std.specs.List.{range_with_len}
use Rattle.codec_terms.specs.Colour.{Weights, fraction, fifths, below_peak, code_value}

-- the light of a 16-bit sample, in units of 2^-24
unfoldable pub light_of : ℕ → ℕ → ℕ
light_of power sample = fifths power (fraction sample)

-- what the lights of red, green and blue add to a component, in units of 2^-24
unfoldable pub sum_of : Weights → ℕ → ℕ → ℕ → ℕ
sum_of w r g b = (w.red * r + w.green * g + w.blue * b) / 65536

-- the code value of such a sum
unfoldable pub code_of : ℕ → ℕ
code_of sum = code_value (below_peak sum)

-- the power 2.6 of a code value, in units of 2^-24
unfoldable pub power_of : ℕ → ℕ
power_of y = fifths 13 (y * 2 ^ 24 / 4095)

-- the least sum whose code value is above y
unfoldable pub least_above : ℕ → ℕ
least_above y = (max 1 (power_of (y + 1)) * 52370 + 47999) / 48000

-- the greatest sum that there is: all light at the heaviest weights
abbrev pub most_sum : ℕ
most_sum = 71357 * 2 ^ 8

-- Sums below 2^16 have an entry each in the table of code values, the others one for each 2^8.
unfoldable pub entry_start : ℕ → ℕ
entry_start at = if nat_lt at (2 ^ 16) then at else (at - 2 ^ 16) * 2 ^ 8

abbrev pub code_entries : ℕ
code_entries = 2 ^ 16 + 71357 + 1

-- the code value of an entry's least sum
abbrev pub entry_code : ℕ → ℕ
entry_code at = code_of (entry_start at)

-- the values at all places below n
unfoldable pub list_of : (ℕ → ℕ) → ℕ → List ℕ
list_of value_at n = map value_at (range_with_len 0 n)

-- the table holds these values, and no others
pub record IsTable (value_at : ℕ → ℕ) (entries : ℕ) (table : List ℕ) : Type 0 where
  pub size : length table ≡ entries
  pub entry : (at : ℕ) → at < entries → slice_index table at ≡ value_at at

-- a code value is that of a sum, or one below it
pub record IsNear (sum y : ℕ) : Type 0 where
  pub below : y ≤ code_of sum
  pub near : code_of sum ≤ y + 1
