use Rattle.packet_size.proofs.CountedInto.{behind-ff, behind-other}
use Rattle.packet_size.proofs.whole.behind_next.Goals as goal
use Rattle.packet_size.proofs.whole.behind_next.Goals.{else-behind-eq7-via-then-behind-eq7+else-bits-eq255, else-behind-eq7-via-else-behind-eq7}

pub returns-then-bits-eq255 : goal.returns-then-bits-eq255
returns-then-bits-eq255 c = behind-ff c.args.behind c.args.bits c.if-behind-eq7.true c.if-bits-eq255.true

pub returns-else-behind-eq7 : goal.returns-else-behind-eq7
returns-else-behind-eq7 c =
    elim c.else-behind-eq7.branch [
      | else-behind-eq7-via-then-behind-eq7+else-bits-eq255 w ↦ behind-other c.args.behind c.args.bits c.requires (λ e full. w.if-bits-eq255.false full)
      | else-behind-eq7-via-else-behind-eq7 w ↦ behind-other c.args.behind c.args.bits c.requires (λ e full. w.if-behind-eq7.false e)
    ]
