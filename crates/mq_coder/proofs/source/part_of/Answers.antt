use Rattle.std.proofs.Common.{◌≡◌, ◌-◌, ◌*◌, ◌^◌, ◌%◌, ◌<◌, ap, arith, mod-eq_of_lt}
use Rattle.mq_coder.specs.Sources.{reading_of}
use Rattle.mq_coder.proofs.Bits.{part-lower, part-upper}
use Rattle.mq_coder.proofs.source.part_of.Goals as goal

pub returns-then-at-qe-clause-part : goal.returns-then-at-qe-clause-part
returns-then-at-qe-clause-part c = λ source. part-lower c.args.qe (reading_of c.args.at source) c.if-at-qe.true

pub returns-clause-part : goal.returns-clause-part
returns-clause-part c =
    let exact : c.args.qe * 2 ^ 16 % 2 ^ 32 ≡ c.args.qe * 2 ^ 16 = mod-eq_of_lt (let e : c.args.qe * 2 ^ 16 < 2 ^ 32 = omega (arith, c.requires.qe) in e) in
    λ source. part-upper c.args.qe (c.args.at.c - c.args.qe * 2 ^ 16 % 2 ^ 32) (reading_of c.args.at source) c.if-at-qe.false (ap (λ x. c.args.at.c - x) exact)
