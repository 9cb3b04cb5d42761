-- The law of a code-block that is read.
use Rattle.block_read_laws.proofs.BlockRead.{block-kept}
use Rattle.block_read_laws.proofs.block_read_laws.Goals as goal

pub returns : goal.returns
returns c = record {
  kept = λ b p whole small.
      block-kept b p whole small
      (record { first = λ p. c.significance_laws.ensures.first b p whole; further = λ p. c.significance_laws.ensures.further b p whole })
      c.coder_laws.ensures.read_back;
}
