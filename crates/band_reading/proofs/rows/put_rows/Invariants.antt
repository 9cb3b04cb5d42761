use Rattle.std.proofs.Common.{◌≡◌, ◌<◌, ◌≤◌, ◌+◌, ◌*◌, ℕ, length, get_or, pos}
use Rattle.band_reading.proofs.rows.put_rows.Given as goal

abbrev pub invariant-loop-j : goal.invariant-loop-j
invariant-loop-j l = record {
  size : length l.out ≡ length l.fn.out;
  inside : (i k : ℕ) → i < l.width → k < l.j
      → get_or l.out ((l.y + k) * l.columns + (l.x + i)) (pos 0) ≡ get_or l.values (k * l.width + i) (pos 0);
  outside : (i k : ℕ) → i < l.columns → (l.x ≤ i → i < l.x + l.width → l.y ≤ k → k < l.y + l.j → ⊥)
      → get_or l.out (k * l.columns + i) (pos 0) ≡ get_or l.fn.out (k * l.columns + i) (pos 0);
}
