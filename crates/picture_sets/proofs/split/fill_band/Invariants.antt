use Rattle.std.proofs.Common.{◌+◌}
use Rattle.quantiser.specs.Signed.{signed_values}
use Rattle.picture_sets.specs.Sets.{AreSetsBefore}
use Rattle.picture_sets.proofs.split.fill_band.Given as goal

abbrev pub invariant-loop-n : goal.invariant-loop-n
invariant-loop-n l = AreSetsBefore (l.first + l.n) l.shape (signed_values l.fn.words) l.sets
