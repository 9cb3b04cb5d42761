-- A packet's size depends on its blocks' sizes alone.
use Rattle.std.proofs.Common.{◌≡◌, ℕ, suc, ◌+◌, refl, sym, ap, ap₂, ◌∙◌, Bool, true, false, List, [], ◌∷◌, ◌++◌, length, map, take, get_or, append-nil, ◌<◌}
use Rattle.std.specs.Prelude.{if◌then◌else◌, ◌||◌}
use Rattle.std.specs.List.{flat_map, list_any}
use Rattle.std.proofs.lemmas.List.{length-append, length-replicate, take_more, map-append}
use Rattle.std.proofs.lemmas.List.Concat.{flat_map-append}
use Rattle.codec_terms.specs.declared.packet.PacketBlock.{PacketBlock}
use Rattle.codec_terms.specs.declared.packet.PacketBand.{PacketBand}
use Rattle.codec_terms.specs.TagTree.{Tree, new_tree, leaf_bits, leaf_told}
use Rattle.codec_terms.specs.PacketHeader.{first_layer, missing_planes, included_bits, blocks_bits, band_bits, is_included, block_codeword, has_included, band_codewords, packed, full_packet, packet}
use Rattle.packet_size.specs.declared.sizes.BlockSize.{BlockSize}
use Rattle.packet_size.specs.declared.sizes.BandSizes.{BandSizes}
use Rattle.packet_size.specs.Sizes.{IsSizeOf, AreBlockSizes, HasSizes, AreSizesOf, includes_some, block_of, band_of}

-- ---- one block

-- what the header and the body have of a block
record IsAlike (block other : PacketBlock) : Type 0 where
  included : block.included ≡ other.included
  layer : first_layer block ≡ first_layer other
  planes : missing_planes block ≡ missing_planes other
  bits : (tree : Tree) (at : ℕ) → (if block.included then included_bits tree at block else []) ≡ (if other.included then included_bits tree at other else [])
  told : (tree : Tree) (at : ℕ) → (if block.included then leaf_told (suc block.zero_planes) tree at else tree) ≡ (if other.included then leaf_told (suc other.zero_planes) tree at else tree)
  body : length (block_codeword block) ≡ length (block_codeword other)

alike : (block other : PacketBlock) (b : Bool) → block.included ≡ b → other.included ≡ b → (b ≡ true → other.zero_planes ≡ block.zero_planes) → (b ≡ true → other.passes ≡ block.passes)
    → (b ≡ true → length other.codeword ≡ length block.codeword) → IsAlike block other
alike block other true e f z p l =
    let planes = z refl in
    let passes = p refl in
    let len = l refl in
    record {
      included = e ∙ sym f;
      layer = rw (e, f) refl;
      planes = rw (e, f) (sym planes);
      bits = λ tree at. rw (e, f, planes, passes, len) refl;
      told = λ tree at. rw (e, f, planes) refl;
      body = rw (e, f) (sym len);
    }
alike block other false e f z p l = record {
  included = e ∙ sym f;
  layer = rw (e, f) refl;
  planes = rw (e, f) refl;
  bits = λ tree at. rw (e, f) refl;
  told = λ tree at. rw (e, f) refl;
  body = rw (e, f) refl;
}

alike-size : (size : BlockSize) (block : PacketBlock) → IsSizeOf size block → IsAlike block (block_of size)
alike-size size block s =
    alike block (block_of size) block.included refl s.included s.zero_planes s.passes (λ e. length-replicate size.len 0 ∙ s.len e)

-- ---- a sub-band's blocks

layers-alike : (sizes : List BlockSize) (blocks : List PacketBlock) → AreBlockSizes sizes blocks → map first_layer blocks ≡ map first_layer (map block_of sizes)
layers-alike [] [] s = refl
layers-alike [] (block ∷ blocks) s = absurd s
layers-alike (size ∷ sizes) [] s = absurd s
layers-alike (size ∷ sizes) (block ∷ blocks) s = ap₂ (λ n ns. n ∷ ns) (alike-size size block s.0).layer (layers-alike sizes blocks s.1)

planes-alike : (sizes : List BlockSize) (blocks : List PacketBlock) → AreBlockSizes sizes blocks → map missing_planes blocks ≡ map missing_planes (map block_of sizes)
planes-alike [] [] s = refl
planes-alike [] (block ∷ blocks) s = absurd s
planes-alike (size ∷ sizes) [] s = absurd s
planes-alike (size ∷ sizes) (block ∷ blocks) s = ap₂ (λ n ns. n ∷ ns) (alike-size size block s.0).planes (planes-alike sizes blocks s.1)

bits-alike : (layers planes : Tree) (at : ℕ) (sizes : List BlockSize) (blocks : List PacketBlock) → AreBlockSizes sizes blocks → blocks_bits layers planes at blocks ≡ blocks_bits layers planes at (map block_of sizes)
unfolding blocks_bits
bits-alike layers planes at [] [] s = refl
bits-alike layers planes at [] (block ∷ blocks) s = absurd s
bits-alike layers planes at (size ∷ sizes) [] s = absurd s
bits-alike layers planes at (size ∷ sizes) (block ∷ blocks) s =
    let a = alike-size size block s.0 in
    ap₂ (λ bits (tree : Tree). (leaf_bits 1 layers at ++ bits) ++ blocks_bits (leaf_told 1 layers at) tree (suc at) blocks) (a.bits planes at) (a.told planes at)
    ∙ ap (λ bits. (leaf_bits 1 layers at ++ (if (block_of size).included then included_bits planes at (block_of size) else [])) ++ bits)
    (bits-alike (leaf_told 1 layers at) (if (block_of size).included then leaf_told (suc (block_of size).zero_planes) planes at else planes) (suc at) sizes blocks s.1)

any-alike : (sizes : List BlockSize) (blocks : List PacketBlock) → AreBlockSizes sizes blocks → list_any is_included blocks ≡ list_any is_included (map block_of sizes)
any-alike [] [] s = refl
any-alike [] (block ∷ blocks) s = absurd s
any-alike (size ∷ sizes) [] s = absurd s
any-alike (size ∷ sizes) (block ∷ blocks) s = ap₂ (λ a b. a || b) (alike-size size block s.0).included (any-alike sizes blocks s.1)

body-alike : (sizes : List BlockSize) (blocks : List PacketBlock) → AreBlockSizes sizes blocks → length (flat_map block_codeword blocks) ≡ length (flat_map block_codeword (map block_of sizes))
body-alike [] [] s = refl
body-alike [] (block ∷ blocks) s = absurd s
body-alike (size ∷ sizes) [] s = absurd s
body-alike (size ∷ sizes) (block ∷ blocks) s =
    length-append (block_codeword block) (flat_map block_codeword blocks)
    ∙ ap₂ (λ m n. m + n) (alike-size size block s.0).body (body-alike sizes blocks s.1)
    ∙ sym (length-append (block_codeword (block_of size)) (flat_map block_codeword (map block_of sizes)))

band-alike : (sizes : BandSizes) (band : PacketBand) → HasSizes sizes band → band_bits band ≡ band_bits (band_of sizes)
band-alike sizes band s =
    let layers = ap₂ (λ m n. new_tree m n (map first_layer band.blocks)) (sym s.columns) (sym s.rows) ∙ ap (new_tree sizes.columns sizes.rows) (layers-alike sizes.blocks.now band.blocks s.blocks) in
    let planes = ap₂ (λ m n. new_tree m n (map missing_planes band.blocks)) (sym s.columns) (sym s.rows) ∙ ap (new_tree sizes.columns sizes.rows) (planes-alike sizes.blocks.now band.blocks s.blocks) in
    ap₂ (λ (layers planes : Tree). blocks_bits layers planes 0 band.blocks) layers planes
    ∙ bits-alike (new_tree sizes.columns sizes.rows (map first_layer (map block_of sizes.blocks.now))) (new_tree sizes.columns sizes.rows (map missing_planes (map block_of sizes.blocks.now))) 0 sizes.blocks.now band.blocks s.blocks

-- ---- a packet

full-alike : (sizes : List BandSizes) (bands : List PacketBand) → AreSizesOf sizes bands → list_any has_included bands ≡ list_any has_included (map band_of sizes)
full-alike [] [] s = refl
full-alike [] (band ∷ bands) s = absurd s
full-alike (size ∷ sizes) [] s = absurd s
full-alike (size ∷ sizes) (band ∷ bands) s = ap₂ (λ a b. a || b) (any-alike size.blocks.now band.blocks s.0.blocks) (full-alike sizes bands s.1)

header-alike : (sizes : List BandSizes) (bands : List PacketBand) → AreSizesOf sizes bands → flat_map band_bits bands ≡ flat_map band_bits (map band_of sizes)
header-alike [] [] s = refl
header-alike [] (band ∷ bands) s = absurd s
header-alike (size ∷ sizes) [] s = absurd s
header-alike (size ∷ sizes) (band ∷ bands) s = ap₂ (λ xs ys. xs ++ ys) (band-alike size band s.0) (header-alike sizes bands s.1)

bodies-alike : (sizes : List BandSizes) (bands : List PacketBand) → AreSizesOf sizes bands → length (flat_map band_codewords bands) ≡ length (flat_map band_codewords (map band_of sizes))
bodies-alike [] [] s = refl
bodies-alike [] (band ∷ bands) s = absurd s
bodies-alike (size ∷ sizes) [] s = absurd s
bodies-alike (size ∷ sizes) (band ∷ bands) s =
    length-append (band_codewords band) (flat_map band_codewords bands)
    ∙ ap₂ (λ m n. m + n) (body-alike size.blocks.now band.blocks s.0.blocks) (bodies-alike sizes bands s.1)
    ∙ sym (length-append (band_codewords (band_of size)) (flat_map band_codewords (map band_of sizes)))

-- the size of a packet, from those of its header and its body
pub packet-length : (bands : List PacketBand) → length (packet bands)
    ≡ (if list_any has_included bands then length (packed (true ∷ flat_map band_bits bands)) + length (flat_map band_codewords bands) else 1)
unfolding packet
packet-length bands = by_test (list_any has_included bands)
  where
    by_test : (t : Bool) → length (if t then full_packet bands else 0 ∷ [])
        ≡ (if t then length (packed (true ∷ flat_map band_bits bands)) + length (flat_map band_codewords bands) else 1)
    by_test true = length-append (packed (true ∷ flat_map band_bits bands)) (flat_map band_codewords bands)
    by_test false = refl

pub sizes-alone : (sizes : List BandSizes) (bands : List PacketBand) → AreSizesOf sizes bands → length (packet (map band_of sizes)) ≡ length (packet bands)
sizes-alone sizes bands s =
    sym (packet-length bands
    ∙ ap (λ (t : Bool). if t then length (packed (true ∷ flat_map band_bits bands)) + length (flat_map band_codewords bands) else 1) (full-alike sizes bands s)
    ∙ ap₂ (λ bits n. if list_any has_included (map band_of sizes) then length (packed (true ∷ bits)) + n else 1) (header-alike sizes bands s) (bodies-alike sizes bands s)
    ∙ sym (packet-length (map band_of sizes)))

pub any-included : (sizes : List BlockSize) → list_any (λ size. size.included) sizes ≡ list_any is_included (map block_of sizes)
any-included [] = refl
any-included (size ∷ sizes) = ap (λ t. size.included || t) (any-included sizes)

pub any-includes : (bands : List BandSizes) → list_any includes_some bands ≡ list_any has_included (map band_of bands)
any-includes [] = refl
any-includes (band ∷ bands) = ap₂ (λ a b. a || b) (any-included band.blocks.now) (any-includes bands)

pub size-empty : (bands : List BandSizes) → list_any includes_some bands ≡ false → 1 ≡ length (packet (map band_of bands))
size-empty bands e = sym (packet-length (map band_of bands)
    ∙ ap (λ (t : Bool). if t then length (packed (true ∷ flat_map band_bits (map band_of bands))) + length (flat_map band_codewords (map band_of bands)) else 1) (sym (any-includes bands) ∙ e))

pub size-full : (bands : List BandSizes) → list_any includes_some bands ≡ true
    → length (packed (true ∷ flat_map band_bits (map band_of bands))) + length (flat_map band_codewords (map band_of bands)) ≡ length (packet (map band_of bands))
size-full bands e = sym (packet-length (map band_of bands)
    ∙ ap (λ (t : Bool). if t then length (packed (true ∷ flat_map band_bits (map band_of bands))) + length (flat_map band_codewords (map band_of bands)) else 1) (sym (any-includes bands) ∙ e))

-- ---- list after list

pub map-take-more : {A B : Type 0} (f : A → B) (xs : List A) (k : ℕ) (d : A) → k < length xs → map f (take (k + 1) xs) ≡ map f (take k xs) ++ f (get_or xs k d) ∷ []
map-take-more f xs k d inside = ap (map f) (take_more xs k d inside) ∙ map-append f (take k xs) (get_or xs k d ∷ [])

pub length-more : {A B C : Type 0} (f : A → B) (g : B → List C) (xs : List A) (k : ℕ) (d : A) → k < length xs
    → length (flat_map g (map f (take (k + 1) xs))) ≡ length (flat_map g (map f (take k xs))) + length (g (f (get_or xs k d)))
length-more f g xs k d inside =
    ap (λ ys. length (flat_map g ys)) (map-take-more f xs k d inside)
    ∙ ap length (flat_map-append g (map f (take k xs)) (f (get_or xs k d) ∷ []))
    ∙ length-append (flat_map g (map f (take k xs))) (g (f (get_or xs k d)) ++ [])
    ∙ ap (λ ys. length (flat_map g (map f (take k xs))) + length ys) (append-nil (g (f (get_or xs k d))))

pub flat-more : {A B C : Type 0} (f : A → B) (g : B → List C) (xs : List A) (k : ℕ) (d : A) → k < length xs
    → flat_map g (map f (take (k + 1) xs)) ≡ flat_map g (map f (take k xs)) ++ g (f (get_or xs k d))
flat-more f g xs k d inside =
    ap (flat_map g) (map-take-more f xs k d inside)
    ∙ flat_map-append g (map f (take k xs)) (f (get_or xs k d) ∷ [])
    ∙ ap (λ ys. flat_map g (map f (take k xs)) ++ ys) (append-nil (g (f (get_or xs k d))))
