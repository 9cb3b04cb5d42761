use Rattle.std.proofs.Common.{◌∙◌}
use Rattle.mq_coder.proofs.Resume.{front-length}
use Rattle.mq_coder.proofs.ending.front_len.Goals as goal

pub returns : goal.returns
returns c = c.saturating_sub.ensures ∙ front-length c.args.bytes.now
