use Rattle.std.proofs.Common.{◌≡◌, ◌∷◌, [], List, subst, sym, arith, length, map}
use Rattle.std.proofs.lemmas.List.Elements.{All-nil, All-cons}
use Rattle.codec_terms.specs.declared.picture.Band.{Band}
use Rattle.codec_terms.specs.Bands.{resolution_bands}
use Rattle.codec_terms.specs.Codestream.{packet_band}
use Rattle.codec_terms.specs.PacketHeader.{packet}
use Rattle.packet_size.specs.Lengths.{HasLengths}
use Rattle.block_packets.specs.Coded.{most_bytes}
use Rattle.block_packets.proofs.Bands.{three-bands}
use Rattle.block_packets.proofs.length.length_of_three.Goals as goal

pub overflow_cast-result : goal.overflow_cast-result
overflow_cast-result c =
    let P = HasLengths most_bytes in
    let third = All-cons P c.band_sizes-3.result [] c.band_sizes-3.ensures.few (All-nil P) in
    let second = All-cons P c.band_sizes-2.result (c.band_sizes-3.result ∷ []) c.band_sizes-2.ensures.few third in
    omega (arith, c.packet_size.ensures.within most_bytes (All-cons P c.band_sizes.result (c.band_sizes-2.result ∷ c.band_sizes-3.result ∷ []) c.band_sizes.ensures.few second))

pub returns : goal.returns
returns c = λ q coded.
    let p = c.args.precinct in
    let put = packet_band c.args.blocks.now.shape q c.args.cut p.number in
    subst (λ (bands : List Band). c.packet_size.result ≡ length (packet (map put bands)))
    (sym (three-bands (resolution_bands p.component p.resolution) c.band_in.result c.band_in-2.result c.band_in-3.result c.requires.three c.band_in.ensures.band c.band_in-2.ensures.band c.band_in-3.ensures.band))
    (c.packet_size.ensures.size (put c.band_in.result ∷ put c.band_in-2.result ∷ put c.band_in-3.result ∷ [])
    (c.band_sizes.ensures.sizes q coded, (c.band_sizes-2.ensures.sizes q coded, (c.band_sizes-3.ensures.sizes q coded, tt))))
