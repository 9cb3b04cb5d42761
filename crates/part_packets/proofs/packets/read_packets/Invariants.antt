use Rattle.std.proofs.Common.{◌≡◌, ◌≤◌, ◌*◌, length, drop}
use Rattle.codec_terms.specs.Precincts.{packet_order}
use Rattle.part_packets.specs.Counts.{included_blocks}
use Rattle.part_packets.proofs.Behind.{behind}
use Rattle.part_packets.proofs.PacketSteps.{read_from}
use Rattle.part_packets.proofs.packets.read_packets.Given as goal

abbrev pub invariant-loop-n : goal.invariant-loop-n
invariant-loop-n l = record {
  same :
      read_from l.bytes l.head l.component (packet_order l.head.shape) l.start
      ≡ behind l.packets (read_from l.bytes l.head l.component (drop l.n (packet_order l.head.shape)) l.at);
  counted : l.blocks ≡ included_blocks l.packets;
  forward : l.start ≤ l.at;
  within : l.at ≤ length l.bytes;
  few : l.blocks ≤ 48 * l.n;
}
