use Rattle.std.proofs.Common.{◌∙◌, ◌+◌, ◌-◌, ◌/◌, ◌^◌, ap, arith, refl}
use Rattle.codec_terms.specs.Bits.{low_bits}
use Rattle.packet_size.specs.Counting.{counted_into}
use Rattle.packet_size.proofs.CountedInto.{whole-more, behind-few}
use Rattle.packet_size.proofs.whole.whole_bytes.Goals as goal

pub loop-rest-preserved : goal.loop-rest-preserved
loop-rest-preserved c =
    let l = c.loop-rest.rest in
    let left = l.pending - l.behind - 1 in
    let inside = c.loop-rest-test.true in
    let e = c.behind_next.ensures in
    record {
      same = ap (λ k. counted_into (l.bytes + 1) k 0 (low_bits left c.args.bits)) e
          ∙ whole-more l.bytes l.behind l.pending left c.args.bits 0 _ inside refl c.loop-rest.invariant.same;
      byte = omega (arith, e, behind-few l.behind (c.args.bits / 2 ^ left));
      word = omega (arith, c.loop-rest.invariant.word);
      room = omega (arith, inside, c.loop-rest.invariant.room);
    }
