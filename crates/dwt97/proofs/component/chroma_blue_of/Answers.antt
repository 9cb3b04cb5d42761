use Rattle.std.proofs.Common.{arith}
use Rattle.std.proofs.lemmas.Int.{ints}
use Rattle.dwt97.proofs.Shifts.{eighth}
use Rattle.dwt97.proofs.component.chroma_blue_of.Goals as goal

pub returns : goal.returns
returns c = eighth _ _ (omega (arith, ints)) (omega (arith, ints))

pub overflow_add-result : goal.overflow_add-result
overflow_add-result c = omega (arith, ints)
