use Rattle.std.proofs.Common.{ap, reverse}
use Rattle.mq_coder.proofs.Coding.{ready-new, first-below, start-is}
use Rattle.mq_coder.proofs.coder.Coder.start_again.Goals as goal

pub invariant_of-self : goal.invariant_of-self
invariant_of-self c =
    record {
      ready = ready-new (reverse c.truncate.new.self) (ap reverse c.truncate.ensures);
      states = first-below;
    }

pub returns : goal.returns
returns c = start-is (reverse c.truncate.new.self) (ap reverse c.truncate.ensures)
