use Rattle.std.proofs.Common.{take, reverse, ap, ◌∙◌}
use Rattle.codec_terms.specs.Mq.{coded}
use Rattle.mq_coder.specs.Bytes.{with_item}
use Rattle.mq_coder.proofs.Resume.{holds, begun-none, begun-some}
use Rattle.mq_coder.proofs.ending.begin.Goals as goal
use Rattle.mq_coder.proofs.ending.begin.Goals.{then-ending-lt-BYTE_CAME, else-ending-lt-BYTE_CAME}

pub returns-clause-ok : goal.returns-clause-ok
returns-clause-ok c =
    λ ds k.
    let h = holds ds c.args.bytes.now c.args.ending.now k in
    elim c.if-ending-lt-BYTE_CAME.branch [
      | then-ending-lt-BYTE_CAME w ↦
          ap reverse (c.in_ok-refill.ensures.ok ∙ ap (with_item (take c.args.ending.now.kept c.args.bytes.now)) w.last-is)
          ∙ begun-none (coded ds).registers c.args.bytes.now c.args.ending.now h w.if-ending-lt-BYTE_CAME.true
      | else-ending-lt-BYTE_CAME w ↦
          ap reverse (c.in_ok-refill.ensures.ok ∙ ap (with_item (take c.args.ending.now.kept c.args.bytes.now)) w.last-is)
          ∙ begun-some (coded ds).registers c.args.bytes.now c.args.ending.now h w.if-ending-lt-BYTE_CAME.false
    ]
