use Rattle.std.proofs.Common.{◌≡◌, ◌≤◌, length, map, drop}
use Rattle.codec_terms.specs.MainReading.{fields_end}
use Rattle.code_markers.specs.Fields.{rule_of}
use Rattle.code_markers.proofs.field.fields_end.Given as goal

abbrev pub invariant-loop-field : goal.invariant-loop-field
invariant-loop-field l = record {
  within : l.at ≤ length l.bytes;
  same : fields_end l.bytes (map rule_of l.fields) l.start ≡ fields_end l.bytes (map rule_of (drop l.field-index l.fields)) l.at;
}
