use Rattle.std.proofs.Common.{subst, sym}
use Rattle.std.specs.Prelude.{◌≡◌, IfOk}
use Rattle.mq_coder.specs.Bytes.{registers_of}
use Rattle.mq_coder.proofs.Coding.{count-narrow, renormalise-is, shifted-is}
use Rattle.mq_coder.proofs.interval.renormalise.Goals as goal

pub overflow_sub-shift : goal.overflow_sub-shift
overflow_sub-shift c = (count-narrow c.args.at.a c.requires.sound.positive c.requires.narrow).enough

pub returns-then-shift-at-clause-ok : goal.returns-then-shift-at-clause-ok
returns-then-shift-at-clause-ok c =
    shifted-is c.args.at c.shifted.result c.args.bytes.now c.requires c.if-shift-at.true
    c.shifted.ensures.a c.shifted.ensures.c c.shifted.ensures.ct

pub doubled-requires-clause-narrow : goal.doubled-requires-clause-narrow
doubled-requires-clause-narrow c = (count-narrow c.args.at.a c.requires.sound.positive c.requires.narrow).narrow

pub returns-clause-ok : goal.returns-clause-ok
returns-clause-ok c =
    subst (λ x. IfOk c.doubled.result (λ r. x ≡ registers_of r c.doubled.new.bytes))
    (sym (renormalise-is (registers_of c.args.at c.args.bytes.now) c.requires)) c.doubled.ensures.ok
