use Rattle.std.proofs.Common.{◌∙◌, ◌<◌, arith, length}
use Rattle.std.proofs.lemmas.List.{length-set}
use Rattle.std.proofs.lemmas.List.Elements.{All-set}
use Rattle.codec_terms.specs.Bands.{resolution_bands}
use Rattle.packet_scan.specs.Scanning.{IsSmallShape}
use Rattle.stream_survey.proofs.BandShapes.{one_shape_more}
use Rattle.stream_survey.proofs.shapes.precinct_shapes.Goals as goal

pub loop-i-preserved : goal.loop-i-preserved
loop-i-preserved c =
    let a = c.args in
    let l = c.loop-i in
    let there : l.i < length (resolution_bands a.precinct.component a.precinct.resolution) = omega (arith, c.loop-i-test.true, c.band_count-i-end.ensures.number) in
    record {
      taken =
          one_shape_more a.head.now a.precinct l.shapes l.i c.resolution_band-band.result c.band_shape.result (omega (arith, c.loop-i-test.true, c.band_count-i-end.ensures.few, l.invariant.size)) there
          c.resolution_band-band.ensures.band c.band_shape.ensures.shape l.invariant.taken;
      small = All-set IsSmallShape l.shapes l.i c.band_shape.result c.band_shape.ensures.small l.invariant.small;
      size = length-set l.shapes l.i c.band_shape.result ∙ l.invariant.size;
      within = omega (arith, there);
    }
