use Rattle.std.proofs.Common.{◌+◌, ◌<◌, ◌∙◌, List, ap, arith, length, sum_by}
use Rattle.std.proofs.lemmas.List.{take_all}
use Rattle.codec_terms.specs.declared.picture.Band.{Band}
use Rattle.codec_terms.specs.Bands.{resolution_bands}
use Rattle.block_packets.proofs.LeastSums.{floor_in, band-floor-more, all-floors}
use Rattle.block_packets.proofs.floor.packet_floor.Goals as goal

pub loop-i-preserved : goal.loop-i-preserved
loop-i-preserved c = record {
  all = λ q coded.
      let l = c.loop-i in
      let p = c.args.precinct in
      let bands = resolution_bands p.component p.resolution in
      let inside : l.i < length bands = omega (arith, c.loop-i-test.true, c.band_count-i-end.ensures.number) in
      band-floor-more c.args.blocks.now.shape q c.args.cut p.number l.i l.floor c.band_floor-floor.result bands c.band_in.result inside c.band_in.ensures.band
      (l.invariant.all q coded) (c.band_floor-floor.ensures.floor q coded);
  few = omega (arith, c.loop-i.invariant.few, c.band_floor-floor.ensures.few);
}

pub returns : goal.returns
returns c = λ q coded.
    let l = c.loop-i in
    let p = c.args.precinct in
    let bands = resolution_bands p.component p.resolution in
    l.invariant.all q coded
    ∙ ap (λ (bands : List Band). 1 + sum_by (floor_in c.args.blocks.now.shape q c.args.cut p.number) bands)
    (take_all l.i bands (omega (arith, c.loop-i-test.false, c.band_count-i-end.ensures.number)))
    ∙ all-floors c.args.blocks.now.shape q c.args.cut p.number bands
