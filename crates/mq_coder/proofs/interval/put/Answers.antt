use Rattle.std.proofs.Common.{◌<◌, ◌-◌, length, set, reverse, ap, ap₂, ◌∙◌, arith}
use Rattle.mq_coder.proofs.Outputs.{set-before}
use Rattle.mq_coder.proofs.interval.put.Goals as goal

pub returns-then-len-gt0-clause-ok : goal.returns-then-len-gt0-clause-ok
returns-then-len-gt0-clause-ok c =
    let pos : 0 < length c.args.bytes.now = omega (arith, c.len-len.ensures, c.if-len-gt0.true) in
    let at = ap₂ (λ xs n. reverse (set xs n c.args.last)) c.in_ok-push.ensures.ok (ap (λ n. n - 1) c.len-len.ensures) in
    ap reverse c.set.ensures ∙ at ∙ set-before c.args.bytes.now c.args.byte c.args.last pos
