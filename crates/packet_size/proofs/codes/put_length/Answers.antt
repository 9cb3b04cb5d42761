use Rattle.packet_size.proofs.CountedInto.{length-counted, growth-value}
use Rattle.packet_size.proofs.codes.put_length.Goals as goal

pub returns-clause-bits : goal.returns-clause-bits
returns-clause-bits c =
    length-counted c.args.counter.now c.put.new.self c.put-2.new.self c.args.passes c.args.len c.log2-log.result c.growth-growth.result _ c.log2-log.ensures.log c.growth-growth.ensures.growth
    (growth-value c.growth-growth.result c.growth-growth.ensures.few) c.put.ensures.counted c.put-2.ensures.counted
