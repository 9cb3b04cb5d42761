use Rattle.std.proofs.Common.{rules, ◌≡◌, ◌∙◌, ℕ, ◌+◌, ◌<◌, sym, ap, subst, arith, List, [], length, take, get_or, sum_by}
use Rattle.std.proofs.lemmas.List.{get_or_read}
use Rattle.codec_terms.specs.declared.packet.PacketBand.{PacketBand}
use Rattle.codec_terms.specs.Bands.{all_bands, band_length}
use Rattle.codec_terms.specs.Precincts.{packet_order}
use Rattle.part_packets.specs.Shapes.{AreOfPrecincts}
use Rattle.stream_reader.proofs.Filled.{parts_many, values_are, component_fits, next_values, all_values}
use Rattle.stream_reader.proofs.values.read_each.Goals as goal

pub bounds-parts-band : goal.bounds-parts-band
bounds-parts-band c = rw (parts_many c.args.head.now c.args.parts.now c.requires.parts) c.band_at-band.ensures.picture.component

pub read_band-requires-clause-packets : goal.read_band-requires-clause-packets
read_band-requires-clause-packets c =
    let inside : c.band_at-band.result.component < length c.args.parts.now = rw (parts_many c.args.head.now c.args.parts.now c.requires.parts) c.band_at-band.ensures.picture.component in
    let packets_are : c.as_slice-packets.result.now ≡ get_or c.args.parts.now c.band_at-band.result.component [] =
    c.as_slice-packets.ensures ∙ get_or_read c.args.parts.now c.band_at-band.result.component c.index-parts-band.result inside c.index-parts-band.is [] in
    subst (λ (packets : List (List PacketBand)). AreOfPrecincts c.args.head.now c.band_at-band.result.component (packet_order c.args.head.now.shape) packets) (sym packets_are)
    (component_fits c.args.head.now c.args.parts.now c.band_at-band.result.component c.requires.parts c.band_at-band.ensures.picture.component)

pub loop-place-preserved : goal.loop-place-preserved
loop-place-preserved c =
    let inside : c.band_at-band.result.component < length c.args.parts.now = rw (parts_many c.args.head.now c.args.parts.now c.requires.parts) c.band_at-band.ensures.picture.component in
    let packets_are : c.as_slice-packets.result.now ≡ get_or c.args.parts.now c.band_at-band.result.component [] =
    c.as_slice-packets.ensures ∙ get_or_read c.args.parts.now c.band_at-band.result.component c.index-parts-band.result inside c.index-parts-band.is [] in
    let end_is : c.band_start-start.result + c.band_length.result ≡ c.band_start-start.result + band_length c.args.head.now.shape c.band_at-band.result =
    ap (λ (n : ℕ). c.band_start-start.result + n) c.band_length.ensures.length in
    record {
      done =
          next_values c.args.head.now c.args.parts.now c.loop-place.place c.band_start-start.result (c.band_start-start.result + c.band_length.result) c.band_at-band.result c.as_slice-packets.result.now
          c.loop-place.values c.read_band.new.out c.loop-place-test.true c.band_at-band.ensures.listed
          (c.band_start-start.ensures.start ∙ ap (λ (n : ℕ). sum_by (band_length c.args.head.now.shape) (take n all_bands)) c.band_at-band.ensures.place)
          end_is (omega (arith, c.loop-place.invariant.size, c.requires.whole, c.band_start-start.ensures.within)) (search rules) packets_are c.read_band.ensures c.loop-place.invariant.done;
      size = search rules;
    }

pub returns : goal.returns
returns c =
    all_values c.args.head.now c.args.parts.now c.loop-place.place c.loop-place.values c.loop-place-test.false (c.loop-place.invariant.size ∙ c.requires.whole) c.loop-place.invariant.done
    ∙ values_are c.args.head.now c.args.parts.now c.requires.parts
