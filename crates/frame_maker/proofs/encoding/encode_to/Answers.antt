use Rattle.std.proofs.Common.{◌∙◌, length, arith, length-take}
use Rattle.frame_maker.proofs.Tasks.{encoding_short}
use Rattle.frame_maker.proofs.encoding.encode_to.Goals as goal

pub slice_bounds-copy_from_slice-end : goal.slice_bounds-copy_from_slice-end
slice_bounds-copy_from_slice-end c =
    let e = c.in_ok-encoded.encoded in
    let short = encoding_short e.task.now c.args.task.now c.as_slice-bytes.result.now e.cut c.in_ok-encoded.ensures
    (c.as_slice-bytes.ensures ∙ e.bytes_are) e.cut_is e.within in
    omega (arith, short, c.requires.room)

pub slice_bounds-copy_from_slice-end-2 : goal.slice_bounds-copy_from_slice-end-2
slice_bounds-copy_from_slice-end-2 c =
    let e = c.in_ok-encoded.encoded in
    let short = encoding_short e.task.now c.args.task.now c.as_slice-bytes.result.now e.cut c.in_ok-encoded.ensures
    (c.as_slice-bytes.ensures ∙ e.bytes_are) e.cut_is e.within in
    omega (arith, short, c.requires.room, length-take (length c.as_slice-bytes.result.now) c.args.room.now)

pub copy_from_slice-requires : goal.copy_from_slice-requires
copy_from_slice-requires c =
    let e = c.in_ok-encoded.encoded in
    let short = encoding_short e.task.now c.args.task.now c.as_slice-bytes.result.now e.cut c.in_ok-encoded.ensures
    (c.as_slice-bytes.ensures ∙ e.bytes_are) e.cut_is e.within in
    omega (arith, short, c.requires.room, length-take (length c.as_slice-bytes.result.now) c.args.room.now)

pub returns-clause-size : goal.returns-clause-size
returns-clause-size c =
    let e = c.in_ok-encoded.encoded in
    encoding_short e.task.now c.args.task.now c.as_slice-bytes.result.now e.cut c.in_ok-encoded.ensures
    (c.as_slice-bytes.ensures ∙ e.bytes_are) e.cut_is e.within
