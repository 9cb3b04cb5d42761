use Rattle.std.proofs.Common.{◌≡◌, ◌≤◌, ◌*◌, ◌+◌, ◌^◌, length, drop}
use Rattle.codec_terms.specs.Codestream.{components}
use Rattle.stream_survey.proofs.Behind.{behind}
use Rattle.stream_survey.proofs.PartSteps.{parts_from}
use Rattle.stream_survey.proofs.parts.survey_parts.Given as goal

abbrev pub invariant-loop-component : goal.invariant-loop-component
invariant-loop-component l = record {
  same :
      parts_from l.bytes l.head components l.head.next
      ≡ behind l.blocks (parts_from l.bytes l.head (drop l.component components) l.at);
  there : l.at + 2 ≤ length l.bytes;
  few : l.blocks ≤ 48 * 2 ^ 20 * l.component;
}
