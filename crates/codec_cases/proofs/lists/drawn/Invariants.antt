use Rattle.std.specs.Prelude.{◌<◌, All}
use Rattle.codec_cases.proofs.lists.drawn.Given as goal

abbrev pub invariant-loop : goal.invariant-loop
invariant-loop l = All (λ d. d < 38) l.list
