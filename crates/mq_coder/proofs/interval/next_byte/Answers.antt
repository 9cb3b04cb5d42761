use Rattle.std.proofs.Common.{◌/◌, ◌%◌, ◌∙◌, ap}
use Rattle.std.proofs.lemmas.Nat.{and_mask}
use Rattle.mq_coder.proofs.Outputs.{next-stuffed, next-whole, next-carried-stuffed, next-carried-whole}
use Rattle.mq_coder.proofs.interval.next_byte.Goals as goal

pub returns-then-last-eq255-clause-out : goal.returns-then-last-eq255-clause-out
returns-then-last-eq255-clause-out c =
    let e = c.stuffed_byte.ensures in
    next-stuffed c.args.last c.args.c c.stuffed_byte.result c.if-last-eq255.true e.last e.byte e.c e.ct

pub returns-then-c-lt134217728-clause-out : goal.returns-then-c-lt134217728-clause-out
returns-then-c-lt134217728-clause-out c =
    let e = c.whole_byte.ensures in
    next-whole c.args.last c.args.c c.whole_byte.result c.if-last-eq255.false c.if-c-lt134217728.true e.last e.byte e.c e.ct

pub returns-then-last-eq254-clause-out : goal.returns-then-last-eq254-clause-out
returns-then-last-eq254-clause-out c =
    let e = c.stuffed_byte-then-last-eq254.ensures in
    next-carried-stuffed c.args.last c.args.c c.stuffed_byte-then-last-eq254.result c.if-last-eq254.true c.if-c-lt134217728.false
    e.last (e.byte ∙ ap (λ x. x / 0x100000) (and_mask c.args.c 27)) (e.c ∙ ap (λ x. x % 0x100000) (and_mask c.args.c 27)) e.ct

pub returns-else-last-eq254-clause-out : goal.returns-else-last-eq254-clause-out
returns-else-last-eq254-clause-out c =
    let e = c.whole_byte-else-last-eq254.ensures in
    next-carried-whole c.args.last c.args.c c.whole_byte-else-last-eq254.result c.if-last-eq255.false c.if-last-eq254.false
    c.if-c-lt134217728.false e.last e.byte e.c e.ct
