use Rattle.std.proofs.Common.{◌∷◌, ap, reverse, ◌∙◌}
use Rattle.mq_coder.specs.Bytes.{with_last}
use Rattle.mq_coder.proofs.Outputs.{reverse-push}
use Rattle.mq_coder.proofs.Endings.{dropped, kept}
use Rattle.mq_coder.proofs.tail.end_with.Goals as goal

pub returns-in_ok-push : goal.returns-in_ok-push
returns-in_ok-push c =
    ap reverse c.in_ok-push.ensures.ok ∙ reverse-push c.put.new.bytes c.args.tail.second
    ∙ ap (λ l. c.args.tail.second ∷ l) c.in_ok-put.ensures.ok
    ∙ kept c.args.tail.second (c.args.tail.first ∷ with_last c.args.tail.last (reverse c.args.bytes.now)) c.if-tail-ne255.true

pub returns-else-tail-ne255 : goal.returns-else-tail-ne255
returns-else-tail-ne255 c =
    c.in_ok-put.ensures.ok
    ∙ dropped c.args.tail.second (c.args.tail.first ∷ with_last c.args.tail.last (reverse c.args.bytes.now)) c.if-tail-ne255.false
