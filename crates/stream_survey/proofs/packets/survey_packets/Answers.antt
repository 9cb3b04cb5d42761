use Rattle.std.proofs.Common.{◌<◌, ◌≤◌, length, refl, arith}
use Rattle.std.proofs.lemmas.Result.{err_from_is_err_and}
use Rattle.codec_terms.specs.Precincts.{packet_order}
use Rattle.stream_survey.proofs.Behind.{one_more, all_read, refused_there}
use Rattle.stream_survey.proofs.PacketSteps.{next_packet, next_refused, no_packets}
use Rattle.stream_survey.proofs.packets.survey_packets.Goals as goal

pub returns-in_err-packet-clause-refused : goal.returns-in_err-packet-clause-refused
returns-in_err-packet-clause-refused c =
    let e = err_from_is_err_and c.from_residual.result c.from_residual.ensures.1 in
    let a = c.args in
    let l = c.loop-n in
    let inside : c.loop-n.n < length (packet_order c.args.head.now.shape) = omega (arith, c.loop-n-test.true, c.packets_of-n-end.ensures.number) in
    rw (e.1, e.2) (refused_there _ _ l.blocks l.invariant.same c.in_err-packet.field-0.0
    (next_refused a.bytes.now a.head.now a.component l.n l.at c.precinct_at-precinct.result c.precinct_at-precinct.ensures inside c.in_err-packet.field-0.0 c.in_err-packet.ensures.refused))

pub loop-n-preserved : goal.loop-n-preserved
loop-n-preserved c =
    let a = c.args in
    let l = c.loop-n in
    let inside : c.loop-n.n < length (packet_order c.args.head.now.shape) = omega (arith, c.loop-n-test.true, c.packets_of-n-end.ensures.number) in
    let packet = c.in_ok-packet.packet in
    record {
      same =
          one_more _ _ l.blocks l.invariant.same packet.blocks _ _
          (next_packet a.bytes.now a.head.now a.component l.n l.at c.precinct_at-precinct.result c.precinct_at-precinct.ensures inside packet c.in_ok-packet.ensures.read)
          refl;
      forward = omega (arith, l.invariant.forward, c.in_ok-packet.ensures.forward);
      within = c.in_ok-packet.ensures.within;
      few = omega (arith, l.invariant.few, c.in_ok-packet.ensures.few);
    }

pub returns-clause-read : goal.returns-clause-read
returns-clause-read c =
    let a = c.args in
    let l = c.loop-n in
    let past : length (packet_order c.args.head.now.shape) ≤ c.loop-n.n = omega (arith, c.loop-n-test.false, c.packets_of-n-end.ensures.number) in
    all_read _ _ l.blocks l.invariant.same l.at (no_packets a.bytes.now a.head.now a.component l.n l.at past)
