use Rattle.std.proofs.Common.{◌∙◌, ap, arith}
use Rattle.std.proofs.lemmas.Result.{err_from_is_err_and}
use Rattle.packet_scan.specs.Scanning.{with_band_sizes}
use Rattle.packet_scan.proofs.BlockSteps.{next_band, next_refused, no_bands, bands-refused}
use Rattle.packet_scan.proofs.band.read_bands.Goals as goal

pub returns-in_err-read_band-clause-refused : goal.returns-in_err-read_band-clause-refused
returns-in_err-read_band-clause-refused c =
    let e = err_from_is_err_and c.from_residual.result c.from_residual.ensures.1 in
    let a = c.args in
    let l = c.loop-shape in
    rw (e.1, e.2) (bands-refused a.bytes.now a.sizes.now _ c.in_err-read_band.field-0.0
    (l.invariant.same ∙ ap (with_band_sizes l.sizes)
    (next_refused a.bytes.now a.shapes.now l.shape-index (record { columns = 0; rows = 0; mb = 0 }) l.place c.in_err-read_band.field-0.0 c.loop-shape-test.true c.in_err-read_band.ensures.refused)))

pub loop-shape-preserved : goal.loop-shape-preserved
loop-shape-preserved c =
    let a = c.args in
    let l = c.loop-shape in
    record {
      same =
          l.invariant.same
          ∙ next_band a.bytes.now l.sizes c.read_band.new.sizes a.shapes.now l.shape-index (record { columns = 0; rows = 0; mb = 0 }) l.place c.read_band.new.place c.loop-shape-test.true c.in_ok-read_band.ensures.read;
      few = omega (arith, l.invariant.few, c.read_band.ensures.few);
      within = omega (arith, c.loop-shape-test.true);
    }

pub returns-clause-read : goal.returns-clause-read
returns-clause-read c =
    let l = c.loop-shape in
    l.invariant.same ∙ no_bands c.args.bytes.now l.sizes c.args.shapes.now l.shape-index l.place c.loop-shape-test.false
