use Rattle.std.proofs.Common.{◌≡◌, ◌≢◌, ℕ, ◌+◌, ◌<◌, [], get_or}
use Rattle.block_sets.proofs.split.put_words.Given as goal

abbrev pub invariant-loop-p : goal.invariant-loop-p
invariant-loop-p l = record {
  lower : (p : ℕ) → p < l.p → get_or (get_or l.sets p []) l.w 0 ≡ get_or l.lower p 0;
  upper : (p : ℕ) → p < l.p → get_or (get_or l.sets (8 + p) []) l.w 0 ≡ get_or l.upper p 0;
  others : (p v : ℕ) → v ≢ l.w → get_or (get_or l.sets p []) v 0 ≡ get_or (get_or l.initial.sets p []) v 0;
}
