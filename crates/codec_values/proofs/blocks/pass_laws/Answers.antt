-- The laws of the list of passes.
use Rattle.std.proofs.Common.{refl, ◌+◌}
use Rattle.codec_terms.specs.Passes.{pass_count}
use Rattle.codec_terms.proofs.PassLaws.{length-passes_down_to, take-passes_down_to}
use Rattle.codec_terms.proofs.WalkLaws.{pass_told-behind}
use Rattle.codec_values.proofs.blocks.pass_laws.Goals as goal

pub returns-clause-count : goal.returns-clause-count
returns-clause-count c = length-passes_down_to

pub returns-clause-first : goal.returns-clause-first
returns-clause-first c = λ p n. take-passes_down_to p n (p + n) (pass_count n) refl refl

pub returns-clause-behind : goal.returns-clause-behind
returns-clause-behind c = pass_told-behind
