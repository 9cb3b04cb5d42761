use Rattle.std.proofs.Common.{◌≡◌, ℕ, ◌+◌, ◌*◌, ◌<◌, ◌≤◌, get_or, pos}
use Rattle.quantiser.specs.Signed.{signed_value}
use Rattle.block_sets.specs.Squares.{word_at}
use Rattle.block_sets.proofs.square.fill_from_values.Given as goal

abbrev pub invariant-loop-y : goal.invariant-loop-y
invariant-loop-y l = record {
  inside : (x y : ℕ) → y < l.y → y < l.height → x < l.width → signed_value (word_at l.square x y) ≡ get_or l.values (y * l.width + x) (pos 0);
  beside : (x y : ℕ) → y < l.y → l.width ≤ x → word_at l.square x y ≡ 0;
  below : (x y : ℕ) → y < l.y → l.height ≤ y → word_at l.square x y ≡ 0;
}
