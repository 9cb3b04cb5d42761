-- A packet's header has few bits.
use Rattle.std.proofs.Common.{◌≡◌, ℕ, zero, suc, ◌+◌, ◌*◌, ◌-◌, ◌/◌, ◌%◌, ◌^◌, ◌≤◌, refl, ap, arith, Bool, true, false, List, [], ◌∷◌, ◌++◌, length, replicate, map, All}
use Rattle.std.specs.Prelude.{if◌then◌else◌, ◌==◌, nat_le, nat_lt, min}
use Rattle.std.specs.Int.{div_ceil, from_bool}
use Rattle.std.proofs.lemmas.Bool.{cond_both}
use Rattle.std.proofs.lemmas.Nat.{mul-le}
use Rattle.std.proofs.lemmas.List.{length-append, length-replicate, length-map}
use Rattle.std.proofs.lemmas.List.Elements.{All-head, All-tail}
use Rattle.codec_terms.specs.declared.packet.PacketBlock.{PacketBlock}
use Rattle.codec_terms.specs.declared.packet.PacketBand.{PacketBand}
use Rattle.codec_terms.specs.Bits.{low_bits, log2}
use Rattle.codec_terms.specs.Grid.{grid_of}
use Rattle.codec_terms.specs.TagTree.{Node, Tree, is_empty, is_root, parents, levels_from, value_levels, new_node, new_tree, raised, node_bits, node_told, node_above, path_bits, path_told, leaf_bits, leaf_told}
use Rattle.codec_terms.specs.PacketHeader.{pass_bits, growth, length_bits, first_layer, missing_planes, included_bits, blocks_bits, band_bits, packed_into, packed}

-- ---- tag trees

if_short : (n : ℕ) (t : Bool) (u v : List Bool) → length u ≤ n → length v ≤ n → length (if t then u else v) ≤ n
if_short n true u v a b = a
if_short n false u v a b = b

node-short : (t low : ℕ) (node : Node) → length (node_bits t low node) ≤ t + 1
node-short t low node =
    let zeros : List Bool = replicate (min node.value t - raised low node) false in
    let last : List Bool = if nat_lt node.value t then true ∷ [] else [] in
    let one : length last ≤ 1 = if_short 1 (nat_lt node.value t) (true ∷ []) [] (omega arith) (omega arith) in
    let none : length zeros ≡ min node.value t - raised low node = length-replicate (min node.value t - raised low node) false in
    if_short (t + 1) node.known [] (zeros ++ last) (omega arith) (omega (arith, length-append zeros last, one, none))

path-short : (t low x y : ℕ) (levels : List (List (List Node))) → length (path_bits t low x y levels) ≤ length levels * (t + 1)
unfolding path_bits
path-short t low x y [] = omega arith
path-short t low x y (level ∷ below) =
    let node : Node = node_above level (length below) x y in
    let own = node-short t low node in
    let rest = path-short t (node_told t low node).reached x y below in
    omega (arith, length-append (node_bits t low node) (path_bits t (node_told t low node).reached x y below), own, rest)

path-told : (t low x y : ℕ) (levels : List (List (List Node))) → length (path_told t low x y levels) ≡ length levels
unfolding path_told
path-told t low x y [] = refl
path-told t low x y (level ∷ below) = ap suc (path-told t (node_told t low (node_above level (length below) x y)).reached x y below)

levels-few : (n columns rows : ℕ) (level : List (List ℕ)) (below : List (List (List ℕ))) → length (levels_from n columns rows level below) ≤ n + 1 + length below
unfolding levels_from
levels-few zero columns rows level below = omega arith
levels-few (suc n) columns rows level below =
    let rest = levels-few n (div_ceil columns 2) (div_ceil rows 2) (parents level) (level ∷ below) in
    elim (is_root columns rows) as (λ (t : Bool). length (elim t as (λ t. List (List (List ℕ))) [
      | true ↦ level ∷ below
      | false ↦ levels_from n (div_ceil columns 2) (div_ceil rows 2) (parents level) (level ∷ below)
    ]) ≤ suc n + 1 + length below) [ true ↦ omega arith | false ↦ omega arith ]

new-few : (columns rows : ℕ) (values : List ℕ) → columns ≤ 4 → rows ≤ 4 → length (new_tree columns rows values).levels ≤ 9
unfolding new_tree
new-few columns rows values narrow low =
    let mapped = length-map (value_levels columns rows values) (map (map new_node)) in
    let few : length (value_levels columns rows values) ≤ 9 =
    cond_both (is_empty columns rows) [] (levels_from (columns + rows) columns rows (grid_of columns rows values) []) (λ (ls : List (List (List ℕ))). length ls ≤ 9)
    (λ e. omega arith)
    (λ e. let all = levels-few (columns + rows) columns rows (grid_of columns rows values) [] in omega arith) in
    omega (arith, mapped, few)

-- ---- numbers

length-low_bits : (k n : ℕ) → length (low_bits k n) ≡ k
unfolding low_bits
length-low_bits zero n = refl
length-low_bits (suc k) n = ap suc (length-low_bits k n)

pass-short : (n : ℕ) → length (pass_bits n) ≤ 16
pass-short n =
    if_short 16 (nat_le n 1) (false ∷ []) _ (omega arith)
    (if_short 16 (nat_le n 2) (true ∷ false ∷ []) _ (omega arith)
    (if_short 16 (nat_le n 5) (replicate 2 true ++ low_bits 2 (n - 3)) _ (omega (arith, length-append (replicate 2 true) (low_bits 2 (n - 3)), length-low_bits 2 (n - 3)))
    (if_short 16 (nat_le n 36) (replicate 4 true ++ low_bits 5 (n - 6)) (replicate 9 true ++ low_bits 7 (n - 37))
    (omega (arith, length-append (replicate 4 true) (low_bits 5 (n - 6)), length-low_bits 5 (n - 6)))
    (omega (arith, length-append (replicate 9 true) (low_bits 7 (n - 37)), length-low_bits 7 (n - 37))))))

length-short : (passes len : ℕ) → length (length_bits passes len) ≤ 200
length-short passes len =
    let ones : List Bool = replicate (growth passes len) true in
    let number : List Bool = low_bits (3 + growth passes len + log2 passes) len in
    let first : length ones ≡ growth passes len = length-replicate (growth passes len) true in
    let second = length-low_bits (3 + growth passes len + log2 passes) len in
    let grown : growth passes len ≤ 64 = omega arith in
    let logarithm : log2 passes ≤ 64 = omega arith in
    omega (arith, length-append ones (false ∷ number), first, second, grown, logarithm)

-- ---- blocks

included-short : (planes : Tree) (at : ℕ) (block : PacketBlock) → length planes.levels ≤ 9 → block.zero_planes ≤ 15 → length (included_bits planes at block) ≤ 369
included-short planes at block few zero_planes =
    let first : List Bool = leaf_bits (suc block.zero_planes) planes at in
    let second : List Bool = pass_bits block.passes in
    let third : List Bool = length_bits block.passes (length block.codeword) in
    let path = path-short (suc block.zero_planes) 0 (at % planes.columns) (at / planes.columns) planes.levels in
    let product : length planes.levels * (suc block.zero_planes + 1) ≤ 9 * 17 = mul-le (length planes.levels) (suc block.zero_planes + 1) 9 17 few (omega arith) in
    omega (
      arith,
      length-append (first ++ second) third,
      length-append first second,
      path,
      product,
      pass-short block.passes,
      length-short block.passes (length block.codeword),
    )

if_levels : (n : ℕ) (t : Bool) (u v : Tree) → length u.levels ≤ n → length v.levels ≤ n → length (if t then u else v).levels ≤ n
if_levels n true u v a b = a
if_levels n false u v a b = b

blocks-short : (layers planes : Tree) (at : ℕ) (blocks : List PacketBlock) → length layers.levels ≤ 9 → length planes.levels ≤ 9
    → All (λ (block : PacketBlock). block.zero_planes ≤ 15) blocks → length (blocks_bits layers planes at blocks) ≤ length blocks * 400
unfolding blocks_bits
blocks-short layers planes at [] a b h = omega arith
blocks-short layers planes at (block ∷ blocks) a b h =
    let own = All-head (λ (block : PacketBlock). block.zero_planes ≤ 15) block blocks h in
    let next_layers : Tree = leaf_told 1 layers at in
    let next_planes : Tree = if block.included then leaf_told (suc block.zero_planes) planes at else planes in
    let first : List Bool = leaf_bits 1 layers at in
    let second : List Bool = if block.included then included_bits planes at block else [] in
    let third : List Bool = blocks_bits next_layers next_planes (suc at) blocks in
    let path = path-short 1 0 (at % layers.columns) (at / layers.columns) layers.levels in
    let inside : length second ≤ 369 = if_short 369 block.included (included_bits planes at block) [] (included-short planes at block b own) (omega arith) in
    let kept_layers : length next_layers.levels ≡ length layers.levels = path-told 1 0 (at % layers.columns) (at / layers.columns) layers.levels in
    let told_planes : length (leaf_told (suc block.zero_planes) planes at).levels ≡ length planes.levels = path-told (suc block.zero_planes) 0 (at % planes.columns) (at / planes.columns) planes.levels in
    let kept_planes : length next_planes.levels ≤ 9 = if_levels 9 block.included (leaf_told (suc block.zero_planes) planes at) planes (omega (arith, told_planes, b)) b in
    let rest = blocks-short next_layers next_planes (suc at) blocks (omega (arith, kept_layers, a)) kept_planes (All-tail (λ (block : PacketBlock). block.zero_planes ≤ 15) block blocks h) in
    omega (arith, length-append (first ++ second) third, length-append first second, path, inside, rest, a)

pub band_bits-short : (band : PacketBand) → band.columns ≤ 4 → band.rows ≤ 4 → length band.blocks ≤ 16 → All (λ (block : PacketBlock). block.zero_planes ≤ 15) band.blocks
    → length (band_bits band) ≤ 6400
band_bits-short band narrow low few h =
    let all = blocks-short (new_tree band.columns band.rows (map first_layer band.blocks)) (new_tree band.columns band.rows (map missing_planes band.blocks)) 0 band.blocks
    (new-few band.columns band.rows (map first_layer band.blocks) narrow low) (new-few band.columns band.rows (map missing_planes band.blocks) narrow low) h in
    omega (arith, all)

-- ---- bytes

if_bytes : (n : ℕ) (t : Bool) (u v : List ℕ) → length u ≤ n → length v ≤ n → length (if t then u else v) ≤ n
if_bytes n true u v a b = a
if_bytes n false u v a b = b

packed_into-short : (k byte : ℕ) (bits : List Bool) → length (packed_into k byte bits) ≤ length bits + 1
unfolding packed_into
packed_into-short k byte [] = if_bytes 1 (k == 7) [] (byte ∷ []) (omega arith) (omega arith)
packed_into-short zero byte (bit ∷ bits) =
    let rest = packed_into-short (if byte + from_bool bit == 255 then 6 else 7) 0 bits in omega arith
packed_into-short (suc k) byte (bit ∷ bits) = let rest = packed_into-short k (byte + from_bool bit * 2 ^ suc k) bits in omega arith

pub packed-short : (bits : List Bool) → length (packed bits) ≤ length bits + 1
packed-short bits = packed_into-short 7 0 bits
