-- How long the codewords of a packet's blocks can be.
use Rattle.std.proofs.Common.{◌≡◌, ℕ, ◌+◌, ◌*◌, ◌≤◌, arith, true, false, Bool, List, [], ◌∷◌, ◌++◌, length, map, All, if◌then◌else◌, replicate}
use Rattle.std.specs.List.{flat_map}
use Rattle.std.proofs.lemmas.Nat.{mul-le}
use Rattle.std.proofs.lemmas.List.{length-append, length-replicate}
use Rattle.std.proofs.lemmas.List.Elements.{All-head, All-tail}
use Rattle.codec_terms.specs.PacketHeader.{block_codeword, band_codewords}
use Rattle.packet_size.specs.declared.sizes.BlockSize.{BlockSize}
use Rattle.packet_size.specs.declared.sizes.BandSizes.{BandSizes}
use Rattle.packet_size.specs.Sizes.{block_of, band_of}
use Rattle.packet_size.specs.Lengths.{HasLengths}

codeword-chosen : (included : Bool) (n most : ℕ) → n ≤ most → length {A = ℕ} (if included then replicate n 0 else []) ≤ most
codeword-chosen true n most few = omega (arith, length-replicate {A = ℕ} n 0)
codeword-chosen false n most few = omega arith

codewords-within : (most : ℕ) (sizes : List BlockSize) → All (λ size. size.len ≤ most) sizes
    → length (flat_map block_codeword (map block_of sizes)) ≤ length sizes * most
codewords-within most [] each = omega arith
codewords-within most (size ∷ sizes) each =
    let first = codeword-chosen size.included size.len most (All-head (λ (size : BlockSize). size.len ≤ most) size sizes each) in
    let rest = codewords-within most sizes (All-tail (λ (size : BlockSize). size.len ≤ most) size sizes each) in
    rw (length-append (block_codeword (block_of size)) (flat_map block_codeword (map block_of sizes))) (omega (arith, first, rest))

band-within : (most : ℕ) (band : BandSizes) → HasLengths most band → length (band_codewords (band_of band)) ≤ 16 * most
band-within most band h = omega (arith, codewords-within most band.blocks.now h.each, mul-le (length band.blocks.now) most 16 most h.few (omega arith))

bands-within : (most : ℕ) (bands : List BandSizes) → All (HasLengths most) bands → length (flat_map band_codewords (map band_of bands)) ≤ length bands * (16 * most)
bands-within most [] each = omega arith
bands-within most (band ∷ bands) each =
    let first = band-within most band (All-head (HasLengths most) band bands each) in
    let rest = bands-within most bands (All-tail (HasLengths most) band bands each) in
    rw (length-append (band_codewords (band_of band)) (flat_map band_codewords (map band_of bands))) (omega (arith, first, rest))

pub body-within : (most : ℕ) (bands : List BandSizes) → length bands ≤ 3 → All (HasLengths most) bands → length (flat_map band_codewords (map band_of bands)) ≤ 48 * most
body-within most bands few each = omega (arith, bands-within most bands each, mul-le (length bands) (16 * most) 3 (16 * most) few (omega arith))
