use Rattle.std.proofs.Common.{◌≡◌, ◌∙◌, ap, ◌<◌, ◌≤◌, length, arith}
use Rattle.std.specs.Prelude.{sum_by}
use Rattle.std.proofs.lemmas.Result.{err_from_is_err_and}
use Rattle.codec_terms.specs.Precincts.{packet_order}
use Rattle.codec_terms.specs.StreamReading.{included_in}
use Rattle.part_packets.proofs.Behind.{one_more, all_read, refused_there}
use Rattle.part_packets.proofs.Counting.{packet-counted}
use Rattle.part_packets.proofs.Fitting.{packets-fit}
use Rattle.part_packets.proofs.PacketSteps.{next_packet, next_refused, no_packets}
use Rattle.part_packets.proofs.packets.read_packets.Goals as goal

pub returns-in_err-packet-clause-refused : goal.returns-in_err-packet-clause-refused
returns-in_err-packet-clause-refused c =
    let e = err_from_is_err_and c.from_residual.result c.from_residual.ensures.1 in
    let a = c.args in
    let l = c.loop-n in
    let inside : c.loop-n.n < length (packet_order c.args.head.now.shape) = omega (arith, c.loop-n-test.true, c.packets_of-n-end.ensures.number) in
    rw (e.1, e.2) (refused_there _ _ l.packets l.invariant.same c.in_err-packet.field-0.0
    (next_refused a.bytes.now a.head.now a.component l.n l.at c.precinct_at-precinct.result c.precinct_at-precinct.ensures inside c.in_err-packet.field-0.0 c.in_err-packet.ensures.refused))

pub loop-n-preserved : goal.loop-n-preserved
loop-n-preserved c =
    let a = c.args in
    let l = c.loop-n in
    let inside : c.loop-n.n < length (packet_order c.args.head.now.shape) = omega (arith, c.loop-n-test.true, c.packets_of-n-end.ensures.number) in
    let packet = c.in_ok-packet.packet in
    let counted : c.included_in_packet-blocks.result ≡ sum_by included_in c.in_ok-packet.packet.bands = c.included_in_packet-blocks.ensures ∙ ap (sum_by included_in) c.as_slice.ensures in
    record {
      same =
          one_more _ _ l.packets l.invariant.same packet.bands _ _
          (next_packet a.bytes.now a.head.now a.component l.n l.at c.precinct_at-precinct.result c.precinct_at-precinct.ensures inside packet c.in_ok-packet.ensures.read)
          c.in_ok-push.ensures.pushed;
      counted = packet-counted l.packets packet.bands _ l.blocks _ l.invariant.counted counted c.in_ok-push.ensures.pushed;
      forward = omega (arith, l.invariant.forward, c.in_ok-packet.ensures.forward);
      within = c.in_ok-packet.ensures.within;
      few = omega (arith, l.invariant.few, c.in_ok-packet.ensures.few, counted);
    }

pub returns-clause-read : goal.returns-clause-read
returns-clause-read c =
    let a = c.args in
    let l = c.loop-n in
    let past : length (packet_order c.args.head.now.shape) ≤ c.loop-n.n = omega (arith, c.loop-n-test.false, c.packets_of-n-end.ensures.number) in
    all_read _ _ l.packets l.invariant.same l.at (no_packets a.bytes.now a.head.now a.component l.n l.at past)

pub returns-clause-shapes : goal.returns-clause-shapes
returns-clause-shapes c =
    let a = c.args in
    let l = c.loop-n in
    packets-fit a.bytes.now a.head.now a.component (packet_order a.head.now.shape) a.start l.packets l.at c.requires.start (returns-clause-read c)
