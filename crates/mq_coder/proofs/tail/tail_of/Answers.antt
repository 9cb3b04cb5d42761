use Rattle.mq_coder.proofs.Endings.{value-kept, tail-is}
use Rattle.mq_coder.proofs.tail.tail_of.Goals as goal

pub next_byte-first-requires : goal.next_byte-first-requires
next_byte-first-requires c =
    value-kept c.args.at.a c.args.at.c c.args.at.ct c.value_of.result c.requires.wide c.requires.within c.value_of.ensures

pub returns : goal.returns
returns c =
    tail-is c.args.last c.value_of.result c.args.at c.next_byte-first.result c.next_byte-second.result
    c.requires.wide c.requires.within c.value_of.ensures c.next_byte-first.ensures.out c.next_byte-first.ensures.room
    c.next_byte-second.ensures.out
