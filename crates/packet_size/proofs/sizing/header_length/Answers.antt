use Rattle.std.proofs.Common.{◌∙◌, ◌++◌, ◌∷◌, true, ap, sym, arith, length, map, take}
use Rattle.std.specs.List.{flat_map}
use Rattle.std.proofs.lemmas.List.{take_all}
use Rattle.codec_terms.specs.Bits.{low_bits}
use Rattle.codec_terms.specs.PacketHeader.{band_bits, packed}
use Rattle.packet_size.specs.Counting.{Counted, counted, nothing_counted, byte_count}
use Rattle.packet_size.specs.Sizes.{band_of}
use Rattle.packet_size.proofs.CountedInto.{counted-twice, packed-length}
use Rattle.packet_size.proofs.SizesAlone.{flat-more}
use Rattle.packet_size.proofs.sizing.header_length.Goals as goal

pub loop-band-init : goal.loop-band-init
unfolding low_bits
loop-band-init c = record {
  sent = c.put.ensures.counted ∙ ap (λ (d : Counted). counted d (low_bits 1 1)) c.new-counter.ensures;
  few = omega (arith, c.put.ensures.few, ap (λ (d : Counted). d.bytes) c.new-counter.ensures);
}

pub loop-band-preserved : goal.loop-band-preserved
loop-band-preserved c =
    let l = c.loop-band in
    let bands = c.args.bands.now in
    record {
      sent = c.put_band.ensures.bits
          ∙ ap (λ (d : Counted). counted d (band_bits (band_of c.band-item.result))) l.invariant.sent
          ∙ counted-twice nothing_counted (true ∷ flat_map band_bits (map band_of (take l.band-index bands))) (band_bits (band_of c.band-item.result))
          ∙ ap (λ band. counted nothing_counted (true ∷ (flat_map band_bits (map band_of (take l.band-index bands)) ++ band_bits (band_of band)))) c.band-item.is
          ∙ ap (λ bits. counted nothing_counted (true ∷ bits)) (sym (flat-more band_of band_bits bands l.band-index c.band-item.result (omega (arith, c.loop-band-test.true))));
      few = omega (arith, c.put_band.ensures.few, l.invariant.few);
    }

pub returns-clause-length : goal.returns-clause-length
returns-clause-length c =
    let l = c.loop-band in
    c.byte_count.ensures ∙ ap byte_count l.invariant.sent
    ∙ packed-length (true ∷ flat_map band_bits (map band_of (take l.band-index c.args.bands.now)))
    ∙ ap (λ bands. length (packed (true ∷ flat_map band_bits (map band_of bands)))) (take_all l.band-index c.args.bands.now (omega (arith, c.loop-band-test.false)))
