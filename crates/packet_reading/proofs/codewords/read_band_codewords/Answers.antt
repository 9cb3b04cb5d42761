use Rattle.std.proofs.Common.{◌∙◌, ◌<◌, ◌≤◌, length, arith}
use Rattle.std.specs.Prelude.{min}
use Rattle.std.proofs.lemmas.Result.{err_from_is_err_and}
use Rattle.packet_reading.proofs.Behind.{one_more, all_read, refused_there}
use Rattle.packet_reading.proofs.BandSteps.{next_codewords, next_past, no_codewords_left}
use Rattle.packet_reading.proofs.codewords.read_band_codewords.Goals as goal

pub returns-in_err-blocks-clause-refused : goal.returns-in_err-blocks-clause-refused
returns-in_err-blocks-clause-refused c =
    let e = err_from_is_err_and c.from_residual.result c.from_residual.ensures.1 in
    let a = c.args in
    let l = c.loop-i in
    let inside : l.i < length a.shapes.now = omega arith in
    let there : l.i < length a.bands.now = omega arith in
    rw (e.1, e.2) (refused_there _ _ l.read l.invariant c.in_err-blocks.field-0.0
    (next_past a.bytes.now a.shapes.now a.bands.now l.i l.at (record { columns = 0; rows = 0; mb = 0 }) c.index-bands-i.result c.as_slice.result.now c.in_err-blocks.field-0.0
    inside there (c.as_slice.ensures ∙ c.index-bands-i.is) c.in_err-blocks.ensures.refused))

pub loop-i-preserved : goal.loop-i-preserved
loop-i-preserved c =
    let a = c.args in
    let l = c.loop-i in
    let inside : l.i < length a.shapes.now = omega arith in
    let there : l.i < length a.bands.now = omega arith in
    one_more _ _ l.read l.invariant _ c.push.new.list _
    (next_codewords a.bytes.now a.shapes.now a.bands.now l.i l.at (record { columns = 0; rows = 0; mb = 0 }) c.index-bands-i.result c.as_slice.result.now c.in_ok-blocks.blocks c.read_codewords.new.at
    inside there (c.as_slice.ensures ∙ c.index-bands-i.is) c.in_ok-blocks.ensures.read)
    c.in_ok-push.ensures.pushed

pub returns-clause-read : goal.returns-clause-read
returns-clause-read c =
    let a = c.args in
    let l = c.loop-i in
    let past : min (length a.shapes.now) (length a.bands.now) ≤ l.i = omega arith in
    all_read _ _ l.read l.invariant l.at (no_codewords_left a.bytes.now a.shapes.now a.bands.now l.i l.at past)
