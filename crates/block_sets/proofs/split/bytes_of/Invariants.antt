use Rattle.std.proofs.Common.{◌≡◌, ℕ, ◌/◌, ◌%◌, ◌<◌, get_or}
use Rattle.block_sets.specs.Places.{column_at, row_at}
use Rattle.block_sets.specs.Squares.{word_at}
use Rattle.block_sets.proofs.split.bytes_of.Given as goal

abbrev pub invariant-loop-column : goal.invariant-loop-column
invariant-loop-column l = record {
  low : (i : ℕ) → i < 64 → i / 4 < l.column → get_or l.low i 0 ≡ word_at l.square (column_at l.w i) (row_at l.w i) % 256;
  high : (i : ℕ) → i < 64 → i / 4 < l.column → get_or l.high i 0 ≡ word_at l.square (column_at l.w i) (row_at l.w i) / 256;
  fits : (i : ℕ) → i < 64 → i / 4 < l.column → word_at l.square (column_at l.w i) (row_at l.w i) < 65536;
}
