use Rattle.std.proofs.Common.{◌≡◌, take}
use Rattle.film_project.proofs.copy.copy_sound.Given as goal

abbrev pub invariant-loop-clip : goal.invariant-loop-clip
invariant-loop-clip l = l.copies.items ≡ take l.clip-index l.clips
