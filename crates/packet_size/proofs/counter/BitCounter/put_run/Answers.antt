use Rattle.std.proofs.Common.{◌∙◌, ◌%◌, sym, arith}
use Rattle.packet_size.proofs.CountedInto.{counted-none, run-more, run-end, run-small}
use Rattle.packet_size.proofs.counter.BitCounter.put_run.Goals as goal

pub loop-init : goal.loop-init
loop-init c = record { counted = sym (counted-none c.args.self.now); few = omega arith }

pub loop-preserved : goal.loop-preserved
loop-preserved c =
    let l = c.loop in
    record {
      counted = c.put.ensures.counted ∙ run-more c.args.self.now l.self l.counter l.invariant.counted;
      few = omega (arith, c.put.ensures.few, l.invariant.few);
    }

pub put-requires-2-clause-small : goal.put-requires-2-clause-small
put-requires-2-clause-small c = run-small (c.args.zeros % 32) c.from-one.result c.args.one c.from-one.ensures

pub returns-clause-counted : goal.returns-clause-counted
returns-clause-counted c =
    let l = c.loop in
    c.put-2.ensures.counted
    ∙ run-end c.args.self.now l.self c.args.zeros l.counter c.from-one.result c.args.one (omega (arith, c.loop-test.false, l.auto.counter-end)) c.from-one.ensures l.invariant.counted
