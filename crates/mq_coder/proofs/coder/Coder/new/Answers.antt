use Rattle.std.proofs.Common.{ap, reverse}
use Rattle.mq_coder.proofs.Coding.{ready-new, first-below, start-is}
use Rattle.mq_coder.proofs.coder.Coder.new.Goals as goal

pub invariant_of-result : goal.invariant_of-result
invariant_of-result c =
    record {
      ready = ready-new (reverse c.new.result) (ap reverse c.new.ensures);
      states = first-below;
    }

pub returns : goal.returns
returns c = start-is (reverse c.new.result) (ap reverse c.new.ensures)
