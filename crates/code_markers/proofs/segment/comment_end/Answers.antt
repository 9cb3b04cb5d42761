use Rattle.std.proofs.Common.{[], sym}
use Rattle.codec_terms.specs.MainReading.{within}
use Rattle.code_markers.proofs.Places.{fields_end-first}
use Rattle.code_markers.proofs.segment.comment_end.Goals as goal

pub number_at-requires-clause-room : goal.number_at-requires-clause-room
number_at-requires-clause-room c =
    (fields_end-first c.args.bytes.now (within 2 5 65535) [] c.args.at c.in_ok-field_end.field-0 (sym c.in_ok-field_end.ensures)).there
