use Rattle.std.proofs.Common.{◌≡◌, ◌≤◌, ◌*◌, ◌+◌, ◌^◌, length, take, drop}
use Rattle.codec_terms.specs.Codestream.{components}
use Rattle.codec_terms.specs.StreamReading.{included_count}
use Rattle.part_packets.specs.Shapes.{AreOfComponents}
use Rattle.part_packets.proofs.Behind.{behind}
use Rattle.part_packets.proofs.PartSteps.{parts_from}
use Rattle.part_packets.proofs.parts.read_parts.Given as goal

abbrev pub invariant-loop-component : goal.invariant-loop-component
invariant-loop-component l = record {
  same :
      parts_from l.bytes l.head components l.head.next
      ≡ behind l.parts (parts_from l.bytes l.head (drop l.component components) l.at);
  counted : l.blocks ≡ included_count l.parts;
  shapes : AreOfComponents l.head (take l.component components) l.parts;
  there : l.at + 2 ≤ length l.bytes;
  few : l.blocks ≤ 48 * 2 ^ 20 * l.component;
}
