use Rattle.std.proofs.Common.{◌≡◌, ◌+◌, ◌*◌, length}
use Rattle.sample_pictures.proofs.raw_picture.Given as goal

abbrev pub invariant-loop-y : goal.invariant-loop-y
invariant-loop-y l = length l.raw.items ≡ l.y * (l.shape.width * 6)

abbrev pub invariant-loop-x : goal.invariant-loop-x
invariant-loop-x l = length l.raw.items ≡ l.y * (l.shape.width * 6) + l.x * 6
