use Rattle.std.proofs.Common.{◌≡◌, ◌∙◌, ap, arith, length, map}
use Rattle.std.specs.List.{flat_map}
use Rattle.std.proofs.lemmas.List.{take_all}
use Rattle.codec_terms.specs.PacketHeader.{band_codewords}
use Rattle.packet_size.specs.Sizes.{band_of}
use Rattle.packet_size.proofs.Bodies.{body-within}
use Rattle.packet_size.proofs.sizing.body_length.Goals as goal

pub returns-clause-within : goal.returns-clause-within
returns-clause-within c =
    let l = c.loop-band in
    let bands = c.args.bands.now in
    let whole : l.length ≡ length (flat_map band_codewords (map band_of bands)) =
    l.invariant.so_far ∙ ap (λ bands. length (flat_map band_codewords (map band_of bands))) (take_all l.band-index bands (omega (arith, c.loop-band-test.false))) in
    λ most each. omega (arith, whole, body-within most bands c.requires each)
