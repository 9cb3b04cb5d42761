use Rattle.block_sets.specs.Rebuilt.{block_of}
use Rattle.block_coder.specs.Codes.{IsPartOfCode}
use Rattle.block_cases.proofs.steps.check.Given as goal

abbrev pub invariant-loop-lowest : goal.invariant-loop-lowest
invariant-loop-lowest g l = IsPartOfCode (block_of l.block) l.code
