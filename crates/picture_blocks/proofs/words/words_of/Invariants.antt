use Rattle.std.proofs.Common.{◌≡◌, take}
use Rattle.quantiser.specs.Signed.{signed_values}
use Rattle.picture_blocks.proofs.words.words_of.Given as goal

abbrev pub invariant-loop-value : goal.invariant-loop-value
invariant-loop-value l = signed_values l.words.items ≡ take l.value-index l.values
