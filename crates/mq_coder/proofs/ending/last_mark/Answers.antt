use Rattle.std.proofs.Common.{◌+◌, ◌*◌, ap, ◌∙◌}
use Rattle.mq_coder.proofs.Resume.{mark-reverse}
use Rattle.mq_coder.proofs.ending.last_mark.Goals as goal

pub returns : goal.returns
returns c = ap (λ n. 0x1000000 + n * 0x10000) (c.from.ensures ∙ c.last_of.ensures) ∙ mark-reverse c.args.bytes.now c.if-bytes-eq0.false
