-- A packet has at least one byte, and all its codewords.
use Rattle.std.proofs.Common.{◌≡◌, ℕ, zero, suc, ◌+◌, ◌*◌, ◌^◌, ◌<◌, ◌≤◌, refl, ap, arith, Bool, true, false, List, [], ◌∷◌, length, sum_by}
use Rattle.std.specs.Prelude.{◌==◌}
use Rattle.std.specs.Int.{from_bool}
use Rattle.std.specs.List.{flat_map, list_any}
use Rattle.std.proofs.lemmas.Bool.{cond_both, cond-false, eqb-true, or_parts}
use Rattle.std.proofs.lemmas.List.{length-append}
use Rattle.std.proofs.lemmas.List.Concat.{length-flat_map}
use Rattle.std.proofs.lemmas.List.Sums.{sum_by-cons}
use Rattle.codec_terms.specs.declared.packet.PacketBlock.{PacketBlock}
use Rattle.codec_terms.specs.declared.packet.PacketBand.{PacketBand}
use Rattle.codec_terms.specs.PacketHeader.{packed_into, packed, band_bits, is_included, block_codeword, has_included, band_codewords, full_packet, packet}

packed_into-some : (k byte : ℕ) (bits : List Bool) → k < 7 → 1 ≤ length (packed_into k byte bits)
unfolding packed_into
packed_into-some k byte [] h =
    cond_both (k == 7) [] (byte ∷ []) (λ (bs : List ℕ). 1 ≤ length bs) (λ e. absurd (omega (arith, eqb-true k 7 e))) (λ e. omega arith)
packed_into-some zero byte (bit ∷ bits) h = omega arith
packed_into-some (suc k) byte (bit ∷ bits) h = packed_into-some k (byte + from_bool bit * 2 ^ suc k) bits (omega arith)

packed-some : (bits : List Bool) → 1 ≤ length (packed (true ∷ bits))
unfolding packed_into
packed-some bits = packed_into-some 6 (0 + from_bool true * 2 ^ 7) bits (omega arith)

-- ---- an empty packet has no codewords

block-empty : (block : PacketBlock) → is_included block ≡ false → length (block_codeword block) ≡ 0
block-empty block e = ap length (cond-false block.included block.codeword [] e)

blocks-empty : (blocks : List PacketBlock) → list_any is_included blocks ≡ false → length (flat_map block_codeword blocks) ≡ 0
blocks-empty [] e = refl
blocks-empty (block ∷ blocks) e =
    let parts = or_parts (is_included block) (list_any is_included blocks) e in
    omega (
      arith,
      length-append (block_codeword block) (flat_map block_codeword blocks),
      block-empty block parts.0,
      blocks-empty blocks parts.1,
    )

bands-empty : (bands : List PacketBand) → list_any has_included bands ≡ false → sum_by (λ band. length (band_codewords band)) bands ≡ 0
bands-empty [] e = refl
bands-empty (band ∷ bands) e =
    let parts = or_parts (has_included band) (list_any has_included bands) e in
    omega (
      arith,
      sum_by-cons (λ band. length (band_codewords band)) band bands,
      blocks-empty band.blocks parts.0,
      bands-empty bands parts.1,
    )

pub packet-least : (bands : List PacketBand) → 1 + sum_by (λ band. length (band_codewords band)) bands ≤ length (packet bands)
unfolding packet
packet-least bands =
    cond_both (list_any has_included bands) (full_packet bands) (0 ∷ []) (λ (bs : List ℕ). 1 + sum_by (λ band. length (band_codewords band)) bands ≤ length bs)
    (λ e. omega (
      arith,
      length-append (packed (true ∷ flat_map band_bits bands)) (flat_map band_codewords bands),
      length-flat_map band_codewords bands,
      packed-some (flat_map band_bits bands),
    ))
    (λ e. omega (arith, bands-empty bands e))
