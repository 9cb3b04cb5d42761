-- Packets: ITU-T T.800 Annex B.9 and B.10, with one layer.
--     pass_bits n          the codeword of a number of passes (table B.4)
--     packed bits          the bytes of a header's bits, with a zero bit behind each FF
--     packet bands         a packet's bytes
use Rattle.std.specs.Prelude.{ℕ, zero, suc, ◌+◌, ◌-◌, ◌*◌, ◌^◌, ◌==◌, Bool, true, false, if◌then◌else◌, nat_le, List, [], ◌∷◌, ◌++◌, map, length, replicate}
use Rattle.std.specs.Int.{from_bool}
use Rattle.std.specs.List.{flat_map, list_any}
use Rattle.codec_terms.specs.declared.packet.PacketBlock.{PacketBlock}
use Rattle.codec_terms.specs.declared.packet.PacketBand.{PacketBand}
use Rattle.codec_terms.specs.Bits.{low_bits, bit_length, log2}
use Rattle.codec_terms.specs.TagTree.{Tree, new_tree, leaf_bits, leaf_told}

-- ---- passes and lengths (Annex B.10.6 and B.10.7)

-- For 1 to 164 passes. The table has no codeword for none or for more, and no block needs one: with 15
-- bit-planes at most it has at most 43.
abbrev pub pass_bits : ℕ → List Bool
pass_bits n = if nat_le n 1 then false ∷ []
    else if nat_le n 2 then true ∷ false ∷ []
    else if nat_le n 5 then replicate 2 true ++ low_bits 2 (n - 3)
    else if nat_le n 36 then replicate 4 true ++ low_bits 5 (n - 6)
    else replicate 9 true ++ low_bits 7 (n - 37)

-- by how much Lblock, which is 3 at first, must grow so that a length fits its field; lengths are below 2^64
abbrev pub growth : ℕ → ℕ → ℕ
growth passes len = bit_length len - (3 + log2 passes)

abbrev pub length_bits : ℕ → ℕ → List Bool
length_bits passes len =
    replicate (growth passes len) true ++ false ∷ low_bits (3 + growth passes len + log2 passes) len

-- ---- a sub-band's code-blocks in raster order (Annex B.10.4 and B.10.5)

-- a leaf of the inclusion tree is the first layer that has the block
abbrev pub first_layer : PacketBlock → ℕ
first_layer block = if block.included then 0 else 1

-- A block that isn't included counts as having more zero planes than any other. By how much more changes
-- no bit.
abbrev pub missing_planes : PacketBlock → ℕ
missing_planes block = if block.included then block.zero_planes else 256

abbrev pub included_bits : Tree → ℕ → PacketBlock → List Bool
included_bits planes at block =
    leaf_bits (suc block.zero_planes) planes at ++ pass_bits block.passes
    ++ length_bits block.passes (length block.codeword)

unfoldable pub blocks_bits : Tree → Tree → ℕ → List PacketBlock → List Bool
blocks_bits layers planes at [] = []
blocks_bits layers planes at (block ∷ blocks) =
    leaf_bits 1 layers at
    ++ (if block.included then included_bits planes at block else [])
    ++ blocks_bits (leaf_told 1 layers at)
    (if block.included then leaf_told (suc block.zero_planes) planes at else planes) (suc at) blocks

abbrev pub band_bits : PacketBand → List Bool
band_bits band =
    blocks_bits (new_tree band.columns band.rows (map first_layer band.blocks))
    (new_tree band.columns band.rows (map missing_planes band.blocks)) 0 band.blocks

-- ---- bytes (Annex B.10.1)

-- The bytes of bits that follow those of a byte: k bits are to come behind the next one, and byte is what
-- those before it are worth.
-- A byte that was begun is filled with zeros, and one behind FF is always begun.
unfoldable pub packed_into : ℕ → ℕ → List Bool → List ℕ
packed_into k byte [] = if k == 7 then [] else byte ∷ []
packed_into zero byte (bit ∷ bits) =
    let full = byte + from_bool bit in full ∷ packed_into (if full == 255 then 6 else 7) 0 bits
packed_into (suc k) byte (bit ∷ bits) = packed_into k (byte + from_bool bit * 2 ^ suc k) bits

abbrev pub packed : List Bool → List ℕ
packed bits = packed_into 7 0 bits

-- whether FF is the last of these bytes
unfoldable pub ends_with_ff : List ℕ → Bool
ends_with_ff [] = false
ends_with_ff (byte ∷ []) = byte == 255
ends_with_ff (a ∷ b ∷ bytes) = ends_with_ff (b ∷ bytes)

-- ---- the packet

abbrev pub is_included : PacketBlock → Bool
is_included block = block.included

abbrev pub block_codeword : PacketBlock → List ℕ
block_codeword block = if block.included then block.codeword else []

abbrev pub has_included : PacketBand → Bool
has_included band = list_any is_included band.blocks

abbrev pub band_codewords : PacketBand → List ℕ
band_codewords band = flat_map block_codeword band.blocks

abbrev pub full_packet : List PacketBand → List ℕ
full_packet bands = packed (true ∷ flat_map band_bits bands) ++ flat_map band_codewords bands

unfoldable pub packet : List PacketBand → List ℕ
packet bands = if list_any has_included bands then full_packet bands else 0 ∷ []
