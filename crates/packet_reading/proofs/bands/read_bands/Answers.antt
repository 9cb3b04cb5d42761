use Rattle.std.proofs.lemmas.Result.{err_from_is_err_and}
use Rattle.packet_reading.proofs.Behind.{one_more, all_read, refused_there}
use Rattle.packet_reading.proofs.BandSteps.{next_band, next_refused, no_bands}
use Rattle.packet_reading.proofs.bands.read_bands.Goals as goal

pub returns-in_err-heads-clause-refused : goal.returns-in_err-heads-clause-refused
returns-in_err-heads-clause-refused c =
    let e = err_from_is_err_and c.from_residual.result c.from_residual.ensures.1 in
    let l = c.loop-shape in
    rw (e.1, e.2) (refused_there _ _ l.bands l.invariant c.in_err-heads.field-0.0
    (next_refused c.args.bytes.now c.args.shapes.now l.shape-index (record { columns = 0; rows = 0; mb = 0 }) l.place c.in_err-heads.field-0.0 c.loop-shape-test.true c.in_err-heads.ensures.refused))

pub loop-shape-preserved : goal.loop-shape-preserved
loop-shape-preserved c =
    let l = c.loop-shape in
    one_more _ _ l.bands l.invariant c.in_ok-heads.heads c.push.new.list _
    (next_band c.args.bytes.now c.args.shapes.now l.shape-index (record { columns = 0; rows = 0; mb = 0 }) c.in_ok-heads.heads l.place c.read_band.new.place c.loop-shape-test.true c.in_ok-heads.ensures.read)
    c.in_ok-push.ensures.pushed

pub returns-clause-read : goal.returns-clause-read
returns-clause-read c =
    let l = c.loop-shape in
    all_read _ _ l.bands l.invariant l.place (no_bands c.args.bytes.now c.args.shapes.now l.shape-index l.place c.loop-shape-test.false)
