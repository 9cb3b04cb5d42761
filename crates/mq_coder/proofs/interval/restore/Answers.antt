use Rattle.std.proofs.Common.{◌-◌, length, set, ap, ◌∙◌, arith}
use Rattle.std.proofs.lemmas.List.{length-take-le}
use Rattle.mq_coder.proofs.Outputs.{restored}
use Rattle.mq_coder.proofs.interval.restore.Goals as goal

pub set-requires : goal.set-requires
set-requires c =
    omega (arith, ap length c.truncate.ensures, length-take-le c.args.len c.args.bytes.now c.requires, c.if-len-gt0.true)

pub returns-then-len-gt0 : goal.returns-then-len-gt0
returns-then-len-gt0 c =
    λ before is_len is_last grown.
    c.set.ensures ∙ ap (λ l. set l (c.args.len - 1) c.args.last) c.truncate.ensures
    ∙ restored before c.args.bytes.now c.args.len c.args.last is_len is_last grown c.if-len-gt0.true
