use Rattle.std.proofs.Common.{◌≡◌, ◌≤◌, ◌*◌, length, drop}
use Rattle.codec_terms.specs.Precincts.{packet_order}
use Rattle.stream_survey.proofs.Behind.{behind}
use Rattle.stream_survey.proofs.PacketSteps.{counted_from}
use Rattle.stream_survey.proofs.packets.survey_packets.Given as goal

abbrev pub invariant-loop-n : goal.invariant-loop-n
invariant-loop-n l = record {
  same :
      counted_from l.bytes l.head l.component (packet_order l.head.shape) l.start
      ≡ behind l.blocks (counted_from l.bytes l.head l.component (drop l.n (packet_order l.head.shape)) l.at);
  forward : l.start ≤ l.at;
  within : l.at ≤ length l.bytes;
  few : l.blocks ≤ 48 * l.n;
}
