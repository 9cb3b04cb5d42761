-- The laws of lengths.
use Rattle.mq_laws.proofs.Lengths.{grows-coded, codeword-length, codewords-length, whole-length, further-coded}
use Rattle.mq_laws.proofs.length_laws.Goals as goal

pub returns-clause-more : goal.returns-clause-more
returns-clause-more c = grows-coded

pub returns-clause-flush_least : goal.returns-clause-flush_least
returns-clause-flush_least c = λ ds. (codeword-length ds).least

pub returns-clause-flush_most : goal.returns-clause-flush_most
returns-clause-flush_most c = λ ds. (codeword-length ds).most

pub returns-clause-codewords : goal.returns-clause-codewords
returns-clause-codewords c = codewords-length

pub returns-clause-most : goal.returns-clause-most
returns-clause-most c = whole-length

pub returns-clause-most_further : goal.returns-clause-most_further
returns-clause-most_further c = further-coded
