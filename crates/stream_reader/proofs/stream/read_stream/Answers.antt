use Rattle.std.proofs.Common.{◌∙◌, sym, ap}
use Rattle.std.proofs.lemmas.Result.{err_from_is_err_and}
use Rattle.stream_reader.specs.Values.{stream_values}
use Rattle.stream_reader.proofs.Whole.{no_main, no_parts, no_end, whole}
use Rattle.stream_reader.proofs.stream.read_stream.Goals as goal

pub returns-in-Err-clause-refused : goal.returns-in-Err-clause-refused
returns-in-Err-clause-refused c = λ other. no_main c.args.bytes.now c.in-Err.refusal (sym c.in-Err.ensures.is)

pub returns-in_err-packets-clause-refused : goal.returns-in_err-packets-clause-refused
returns-in_err-packets-clause-refused c =
    let e = err_from_is_err_and c.from_residual.result c.from_residual.ensures.1 in
    rw (e.1, e.2) (λ other. no_parts c.args.bytes.now c.in-Ok.head (sym c.in-Ok.ensures.is) c.in_err-packets.field-0.0 (c.in_err-packets.ensures.refused other))

pub returns-in_err-read_end-clause-refused : goal.returns-in_err-read_end-clause-refused
returns-in_err-read_end-clause-refused c =
    let e = err_from_is_err_and c.from_residual-in_err-read_end.result c.from_residual-in_err-read_end.ensures.1 in
    rw (e.1, e.2) (λ other. no_end c.args.bytes.now c.in-Ok.head (sym c.in-Ok.ensures.is) c.in_ok-packets.packets.parts c.in_ok-packets.packets.next c.in_ok-packets.ensures.read
    c.in_err-read_end.field-0.0 (sym c.in_err-read_end.ensures))

pub returns-clause-read : goal.returns-clause-read
returns-clause-read c =
    whole c.args.bytes.now c.in-Ok.head (sym c.in-Ok.ensures.is) c.in_ok-packets.packets.parts c.in_ok-packets.packets.next c.in_ok-packets.ensures.read c.in_ok-read_end.field-0
    c.in_ok-values.values c.in_ok-packets.packets.blocks (sym c.in_ok-read_end.ensures)
    (c.in_ok-values.ensures.read ∙ ap (stream_values c.in-Ok.head) c.as_slice.ensures) c.in_ok-packets.ensures.blocks
