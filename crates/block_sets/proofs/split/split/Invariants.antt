use Rattle.std.proofs.Common.{◌≡◌, ℕ, ◌<◌, [], get_or}
use Rattle.std.specs.Int.{bit_at}
use Rattle.block_sets.specs.Places.{column_at, row_at}
use Rattle.block_sets.specs.Squares.{word_at}
use Rattle.block_sets.proofs.split.split.Given as goal

abbrev pub invariant-loop-w : goal.invariant-loop-w
invariant-loop-w l = record {
  bit : (p w i : ℕ) → p < 16 → w < l.w → i < 64
      → bit_at (get_or (get_or l.sets p []) w 0) i ≡ bit_at (word_at l.square (column_at w i) (row_at w i)) p;
  fits : (w i : ℕ) → w < l.w → i < 64 → word_at l.square (column_at w i) (row_at w i) < 65536;
}
