use Rattle.std.proofs.Common.{◌≤◌, ◌^◌, length, ap, sym, ◌∙◌, arith}
use Rattle.codec_terms.specs.StreamReading.{stream_read}
use Rattle.frame_values.specs.Ready.{reading_fault}
use Rattle.frame_values.proofs.Surveyed.{long_fault, read_fault, surveyed_fault}
use Rattle.frame_values.proofs.ready.ready_fault.Goals as goal

pub returns-then-bytes-limits-clause-fault : goal.returns-then-bytes-limits-clause-fault
returns-then-bytes-limits-clause-fault c = sym (long_fault c.args.limits c.args.shape c.args.bytes.now (omega arith))

pub returns-in-Ok-clause-fault : goal.returns-in-Ok-clause-fault
returns-in-Ok-clause-fault c =
    c.survey_fault.ensures.fault
    ∙ sym (surveyed_fault (stream_read c.args.bytes.now) c.args.limits c.args.shape c.in-Ok.survey c.in-Ok.ensures.read)
    ∙ sym (read_fault c.args.limits c.args.shape c.args.bytes.now (omega arith))

pub returns-in-Err-clause-fault : goal.returns-in-Err-clause-fault
returns-in-Err-clause-fault c =
    let few : length c.args.bytes.now ≤ 2 ^ 60 = omega arith in
    sym (read_fault c.args.limits c.args.shape c.args.bytes.now (omega arith)
    ∙ ap (reading_fault c.args.limits c.args.shape) (c.in-Err.ensures.refused few))
