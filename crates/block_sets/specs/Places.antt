-- Where a sample of a code-block stands in a set of 16 words of 64 bits: in the order of the scan, ITU-T T.800
-- Annex D.1. A stripe of four rows takes two words, each of 16 columns, and a column four bits from the top.
use Rattle.std.specs.Prelude.{ℕ, ◌+◌, ◌*◌, ◌/◌, ◌%◌}

abbrev pub word_of : ℕ → ℕ → ℕ
word_of x y = y / 4 * 2 + x / 16

abbrev pub bit_of : ℕ → ℕ → ℕ
bit_of x y = x % 16 * 4 + y % 4

-- the other way: the sample of bit i of word w
abbrev pub column_at : ℕ → ℕ → ℕ
column_at w i = w % 2 * 16 + i / 4

abbrev pub row_at : ℕ → ℕ → ℕ
row_at w i = w / 2 * 4 + i % 4
