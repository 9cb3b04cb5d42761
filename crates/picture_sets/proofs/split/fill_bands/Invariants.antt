use Rattle.quantiser.specs.Signed.{signed_values}
use Rattle.picture_sets.specs.Sets.{AreSetsBefore}
use Rattle.picture_sets.proofs.Counts.{before}
use Rattle.picture_sets.proofs.split.fill_bands.Given as goal

abbrev pub invariant-loop-place : goal.invariant-loop-place
invariant-loop-place l = AreSetsBefore (before l.shape l.place) l.shape (signed_values l.words) l.sets
