use Rattle.std.proofs.Common.{◌∙◌, ◌++◌, ◌∷◌, [], sym, ap, ap₂, arith, append_assoc}
use Rattle.std.specs.List.{flat_map}
use Rattle.std.proofs.lemmas.List.{take_all}
use Rattle.codec_terms.specs.PacketHeader.{band_codewords, packed}
use Rattle.packet_laws.proofs.PacketsReadBack.{packet-empty, packet-full}
use Rattle.packet_head.proofs.write.push_packet.Goals as goal

pub returns-then-not-is_full : goal.returns-then-not-is_full
returns-then-not-is_full c =
    c.in_ok-push.ensures.items
    ∙ ap (λ packet. c.args.bytes.now.items ++ packet) (packet-empty c.args.bands.now (sym c.is_full.ensures ∙ c.if-not-is_full.true))

pub returns : goal.returns
returns c =
    let l = c.loop-band in
    let front = c.args.bytes.now.items in
    let header = c.as_slice-2.ensures ∙ c.in_ok-header.ensures ∙ ap packed (c.as_slice.ensures ∙ c.in_ok-bits.ensures) in
    let begun = c.in_ok-extend_from_slice.ensures.items ∙ ap (λ bytes. front ++ bytes) header in
    l.invariant
    ∙ ap₂ (λ bytes bands. bytes ++ flat_map band_codewords bands) begun (take_all l.band-index c.args.bands.now (omega (arith, c.loop-band-test.false)))
    ∙ append_assoc front _ (flat_map band_codewords c.args.bands.now)
    ∙ ap (λ packet. front ++ packet) (packet-full c.args.bands.now (sym c.is_full.ensures ∙ c.if-not-is_full.false))
