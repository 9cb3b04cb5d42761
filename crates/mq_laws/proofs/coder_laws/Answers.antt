-- The laws of reading back.
use Rattle.codec_terms.specs.Mq.{coded, start}
use Rattle.mq_laws.proofs.Decisions.{ready-coded_from}
use Rattle.std.proofs.Common.{sym}
use Rattle.mq_laws.proofs.Lengths.{coded-append}
use Rattle.mq_laws.proofs.ReadBack.{ready-start, read-back}
use Rattle.mq_laws.proofs.coder_laws.Goals as goal

pub returns-clause-ready : goal.returns-clause-ready
unfolding coded
returns-clause-ready c = λ ds. ready-coded_from start ds ready-start

pub returns-clause-read_back : goal.returns-clause-read_back
returns-clause-read_back c = read-back

pub returns-clause-further : goal.returns-clause-further
returns-clause-further c = λ ds es. sym (coded-append ds es)
