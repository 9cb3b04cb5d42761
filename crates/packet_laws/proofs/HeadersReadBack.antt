-- What a packet's header says of its blocks is read back.
use Rattle.std.proofs.Common.{◌≡◌, ℕ, suc, ◌+◌, ◌*◌, ◌-◌, ◌<◌, ◌≤◌, refl, sym, ap, subst, subst₂, ◌∙◌, arith, Bool, true, false, List, [], ◌∷◌, ◌++◌, length, append_assoc, append-nil, Some, Option, inl, inr}
use Rattle.std.specs.Prelude.{if◌then◌else◌, nat_lt, map, All, None, slice_index}
use Rattle.std.specs.List.{range_with_len, flat_map}
use Rattle.std.proofs.lemmas.Bool.{cases_Bool, le-ltb, lt-ltb}
use Rattle.std.proofs.lemmas.List.{length-map}
use Rattle.codec_terms.specs.declared.packet.PacketBlock.{PacketBlock}
use Rattle.codec_terms.specs.declared.packet.PacketBand.{PacketBand}
use Rattle.codec_terms.specs.declared.packet.BandShape.{BandShape}
use Rattle.codec_terms.specs.declared.packet.HeadRefusal.TheVariants.{TooManyPasses}
use Rattle.codec_terms.specs.Passes.{pass_count}
use Rattle.codec_terms.specs.Reading.{done, ◌>>=◌}
use Rattle.codec_terms.specs.TagTree.{Node, Tree, FoundTree, new_tree, blank_tree, new_node, leaf_bits, leaf_told, leaf_value}
use Rattle.codec_terms.specs.PacketHeader.{pass_bits, length_bits, first_layer, missing_planes, blocks_bits, band_bits}
use Rattle.codec_terms.specs.PacketReading.{bands_read, BitPlace, Bits, BlockHead, no_head, leaf_read, pass_count_read, size_read, planes_known, passes_checked, refused_here, included_read, is_in_layer, blocks_read, band_read}
use Rattle.codec_laws.specs.BitsAhead.{IsAhead, Gives}
use Rattle.codec_laws.specs.TreeReading.{AreSameTrees, HasLeaf, LeafIsRead, IsTold, leaf_of, known_value}
use Rattle.codec_laws.proofs.HeaderNumbers.{Gives-done, Gives-then, pass_count_read-is, size_read-is}
use Rattle.codec_laws.proofs.TagTrees.{leaf_read-is, HasLeaf-leaf_told, leaf_value-is, leaf_of-leaf_told, leaf_bits-alike, leaf_of-other}
use Rattle.codec_laws.proofs.TreeLevels.{AreSameTrees-new, HasLeaf-new, leaf_of-new}
use Rattle.packet_laws.specs.ReadBack.{band_heads, AreInOrder, IsReadable, IsInOrder, HasNewLeaves, included_head, head_of}

-- ---- one block that is included: zero planes, passes, length

abbrev with_size : ℕ → ℕ → ℕ → BlockHead
with_size zeros passes size = record { included = true; zero_planes = zeros; passes = passes; size = size }

abbrev behind_check : List ℕ → ℕ → ℕ → Bits BlockHead
behind_check bytes zeros passes = size_read bytes passes >>= (λ size. done (with_size zeros passes size))

abbrev behind_passes : List ℕ → ℕ → ℕ → ℕ → Bits BlockHead
behind_passes bytes mb zeros passes = passes_checked bytes (mb - zeros) passes >>= behind_check bytes zeros

abbrev behind_planes : List ℕ → ℕ → ℕ → Bits BlockHead
behind_planes bytes mb zeros = pass_count_read bytes >>= behind_passes bytes mb zeros

checked-is : (bytes : List ℕ) (planes passes end : ℕ) (p : BitPlace) (bits : List Bool) → passes ≤ pass_count planes → IsAhead bytes p bits end → Gives bytes (passes_checked bytes planes passes) p passes bits end
checked-is bytes planes passes end p bits few here =
    subst (λ t. Gives bytes (if t then refused_here bytes (λ at. TooManyPasses at passes) else done passes) p passes bits end) (sym (le-ltb (pass_count planes) passes few))
    (Gives-done bytes p passes bits end here)

known-is : (bytes : List ℕ) (v : Option ℕ) (n end : ℕ) (p : BitPlace) (bits : List Bool) → v ≡ Some n → IsAhead bytes p bits end → Gives bytes (planes_known bytes v) p n bits end
known-is bytes v n end p bits e here =
    subst (λ w. Gives bytes (planes_known bytes w) p n bits end) (sym e) (Gives-done bytes p n bits end here)

included-head-is : (bytes : List ℕ) (mb at end : ℕ) (block : PacketBlock) (found : FoundTree) (p : BitPlace) (bits : List Bool)
    → mb ≤ 31 → IsReadable mb block → block.included ≡ true → leaf_value found at ≡ Some block.zero_planes
    → IsAhead bytes p (pass_bits block.passes ++ (length_bits block.passes (length block.codeword) ++ bits)) end
    → Gives bytes (included_read bytes mb at found) p (included_head block) bits end
included-head-is bytes mb at end block found p bits small ok inc known here =
    let zeros : ℕ = block.zero_planes in
    let passes : ℕ = block.passes in
    let few : passes ≤ pass_count (mb - zeros) = ok.few inc in
    let some : 1 ≤ passes = ok.some inc in
    let codes : passes ≤ 164 = omega arith in
    let lengths : List Bool = length_bits passes (length block.codeword) ++ bits in
    Gives-then bytes (planes_known bytes (leaf_value found at)) (behind_planes bytes mb) p zeros (included_head block) (pass_bits passes ++ lengths) bits end
    (known-is bytes (leaf_value found at) zeros end p (pass_bits passes ++ lengths) known here)
    (λ q ahead. Gives-then bytes (pass_count_read bytes) (behind_passes bytes mb zeros) q passes (included_head block) lengths bits end
    (pass_count_read-is bytes end passes q lengths some codes ahead)
    (λ r after. Gives-then bytes (passes_checked bytes (mb - zeros) passes) (behind_check bytes zeros) r passes (included_head block) lengths bits end
    (checked-is bytes (mb - zeros) passes end r lengths few after)
    (λ s there. Gives-then bytes (size_read bytes passes) (λ size. done (with_size zeros passes size)) s (length block.codeword) (included_head block) bits bits end
    (size_read-is bytes end passes (length block.codeword) s bits codes (ok.short inc) there)
    (λ t last. Gives-done bytes t (included_head block) bits end last))))

head-included : (block : PacketBlock) → block.included ≡ true → included_head block ≡ head_of block
head-included block e = rw e refl

pub included_read-is : (bytes : List ℕ) (mb at end : ℕ) (block : PacketBlock) (found : FoundTree) (p : BitPlace) (bits : List Bool)
    → mb ≤ 31 → IsReadable mb block → block.included ≡ true → leaf_value found at ≡ Some block.zero_planes
    → IsAhead bytes p (pass_bits block.passes ++ (length_bits block.passes (length block.codeword) ++ bits)) end
    → Gives bytes (included_read bytes mb at found) p (head_of block) bits end
included_read-is bytes mb at end block found p bits small ok inc known here =
    subst (λ h. Gives bytes (included_read bytes mb at found) p h bits end) (head-included block inc)
    (included-head-is bytes mb at end block found p bits small ok inc known here)

-- ---- leaves that nothing was told of

first_there : (tree : Tree) (at v : ℕ) (values : List ℕ) → HasNewLeaves tree at (v ∷ values) → HasLeaf tree at
first_there tree at v values h =
    let same : at + 0 ≡ at = omega arith in
    subst (λ n. HasLeaf tree n) same (h.there 0 (omega arith))

first_new : (tree : Tree) (at v : ℕ) (values : List ℕ) → HasNewLeaves tree at (v ∷ values) → leaf_of tree at ≡ new_node v
first_new tree at v values h =
    let same : at + 0 ≡ at = omega arith in
    subst (λ n. leaf_of tree n ≡ new_node v) same (h.new 0 (omega arith))

later_leaves : (tree : Tree) (at v : ℕ) (values : List ℕ) → HasNewLeaves tree at (v ∷ values) → HasNewLeaves tree (suc at) values
later_leaves tree at v values h = record {
  there = λ i inside. subst (λ n. HasLeaf tree n) (same i) (h.there (suc i) (omega arith));
  new = λ i inside. subst (λ n. leaf_of tree n ≡ new_node (slice_index values i)) (same i) (h.new (suc i) (omega arith));
}
  where
    same : (i : ℕ) → at + suc i ≡ suc at + i
    same i = omega arith

told_leaves : (t : ℕ) (tree : Tree) (at v : ℕ) (values : List ℕ) → HasNewLeaves tree at (v ∷ values) → HasNewLeaves (leaf_told t tree at) (suc at) values
told_leaves t tree at v values h =
    let leaf = first_there tree at v values h in
    let later = later_leaves tree at v values h in
    record {
      there = λ i inside. HasLeaf-leaf_told t at (suc at + i) tree leaf (later.there i inside);
      new = λ i inside. leaf_of-other t at (suc at + i) tree leaf (λ e. omega arith) ∙ later.new i inside;
    }

told_value : (t at v : ℕ) (tree : Tree) (found : FoundTree) → HasLeaf tree at → leaf_of tree at ≡ new_node v → AreSameTrees (leaf_told t tree at) found
    → leaf_value found at ≡ (if nat_lt v t then Some v else None)
told_value t at v tree found leaf new same =
    leaf_value-is at (leaf_told t tree at) found same (HasLeaf-leaf_told t at at tree leaf leaf)
    ∙ by_node (leaf_of (leaf_told t tree at) at) (leaf_of tree at) (leaf_of-leaf_told t at tree leaf) new
  where
    by_node : (after before : Node) → IsTold t before after → before ≡ new_node v → known_value after ≡ (if nat_lt v t then Some v else None)
    by_node after before told e = rw (told.known, told.value, e) refl

-- ---- blocks in raster order

abbrev behind_head : List ℕ → ℕ → FoundTree → FoundTree → List ℕ → BlockHead → Bits (List BlockHead)
behind_head bytes mb layers planes ats head = blocks_read bytes mb layers planes ats >>= (λ heads. done (head ∷ heads))

abbrev behind_zeros : List ℕ → ℕ → ℕ → FoundTree → List ℕ → FoundTree → Bits (List BlockHead)
behind_zeros bytes mb at layers ats planes = included_read bytes mb at planes >>= behind_head bytes mb layers planes ats

abbrev behind_layer : List ℕ → ℕ → ℕ → FoundTree → List ℕ → FoundTree → Bits (List BlockHead)
behind_layer bytes mb at planes ats layers = elim (is_in_layer bytes (leaf_value layers at)) [
  | true ↦ leaf_read bytes mb at planes >>= behind_zeros bytes mb at layers ats
  | false ↦ behind_head bytes mb layers planes ats no_head
]

-- the blocks behind are read with any trees that are the writer's
abbrev AreRead : List ℕ → ℕ → ℕ → Tree → Tree → List ℕ → List Bool → List BlockHead → List Bool → Type 0
AreRead bytes mb end layers planes ats rest heads bits =
    (found_layers found_planes : FoundTree) → AreSameTrees layers found_layers → AreSameTrees planes found_planes
    → (q : BitPlace) → IsAhead bytes q rest end → Gives bytes (blocks_read bytes mb found_layers found_planes ats) q heads bits end

head_joined : (bytes : List ℕ) (mb end : ℕ) (layers planes : FoundTree) (ats : List ℕ) (head : BlockHead) (heads : List BlockHead) (p : BitPlace) (bits : List Bool)
    → Gives bytes (blocks_read bytes mb layers planes ats) p heads bits end → Gives bytes (behind_head bytes mb layers planes ats head) p (head ∷ heads) bits end
head_joined bytes mb end layers planes ats head heads p bits g =
    Gives-then bytes (blocks_read bytes mb layers planes ats) (λ heads. done (head ∷ heads)) p heads (head ∷ heads) bits bits end g
    (λ q ahead. Gives-done bytes q (head ∷ heads) bits end ahead)

left_out : (bytes : List ℕ) (mb at end : ℕ) (ats : List ℕ) (heads : List BlockHead) (rest bits : List Bool) (layers planes : Tree) (fl fp : FoundTree) (p : BitPlace)
    → AreSameTrees layers fl → AreSameTrees planes fp → HasLeaf layers at → leaf_of layers at ≡ new_node 1
    → IsAhead bytes p (leaf_bits 1 layers at ++ rest) end → AreRead bytes mb end (leaf_told 1 layers at) planes ats rest heads bits
    → Gives bytes (blocks_read bytes mb fl fp (at ∷ ats)) p (no_head ∷ heads) bits end
unfolding blocks_read
left_out bytes mb at end ats heads rest bits layers planes fl fp p sl sp leaf new here next =
    let r = leaf_read-is bytes 1 at end layers fl p rest sl leaf here in
    let none : leaf_value r.after at ≡ None = told_value 1 at 1 layers r.after leaf new r.same in
    Gives-then bytes (leaf_read bytes 1 at fl) (behind_layer bytes mb at fp ats) p r.after (no_head ∷ heads) rest bits end r.gives
    (λ q ahead. rw (none, behind_layer) (head_joined bytes mb end r.after fp ats no_head heads q bits (next r.after fp r.same sp q ahead)))

zeros_read : (bytes : List ℕ) (mb at end zeros : ℕ) (planes : Tree) (fp : FoundTree) (p : BitPlace) (rest : List Bool)
    → zeros < mb → AreSameTrees planes fp → HasLeaf planes at → leaf_of planes at ≡ new_node zeros
    → IsAhead bytes p (leaf_bits (suc zeros) planes at ++ rest) end → LeafIsRead bytes mb at planes fp p rest end
zeros_read bytes mb at end zeros planes fp p rest low sp leaf new here =
    let value : (leaf_of planes at).value ≡ zeros = ap (λ (n : Node). n.value) new in
    let alike = leaf_bits-alike (suc zeros) mb at planes fp sp leaf (omega (arith, value)) (omega (arith, value)) in
    leaf_read-is bytes mb at end planes fp p rest sp leaf (subst (λ xs. IsAhead bytes p (xs ++ rest) end) alike.0 here)

let_in : (bytes : List ℕ) (mb at end : ℕ) (block : PacketBlock) (ats : List ℕ) (heads : List BlockHead) (rest bits : List Bool) (layers planes : Tree) (fl fp : FoundTree) (p : BitPlace)
    → mb ≤ 31 → IsReadable mb block → block.included ≡ true → AreSameTrees layers fl → AreSameTrees planes fp
    → HasLeaf layers at → leaf_of layers at ≡ new_node 0 → HasLeaf planes at → leaf_of planes at ≡ new_node block.zero_planes
    → IsAhead bytes p (leaf_bits 1 layers at ++ (leaf_bits (suc block.zero_planes) planes at ++ (pass_bits block.passes ++ (length_bits block.passes (length block.codeword) ++ rest)))) end
    → AreRead bytes mb end (leaf_told 1 layers at) (leaf_told (suc block.zero_planes) planes at) ats rest heads bits
    → Gives bytes (blocks_read bytes mb fl fp (at ∷ ats)) p (included_head block ∷ heads) bits end
unfolding blocks_read
let_in bytes mb at end block ats heads rest bits layers planes fl fp p small ok inc sl sp leaf new leaf' new' here next =
    let zeros : ℕ = block.zero_planes in
    let numbers : List Bool = pass_bits block.passes ++ (length_bits block.passes (length block.codeword) ++ rest) in
    let low : zeros < mb = ok.planes inc in
    let r = leaf_read-is bytes 1 at end layers fl p (leaf_bits (suc zeros) planes at ++ numbers) sl leaf here in
    let some : leaf_value r.after at ≡ Some 0 = told_value 1 at 0 layers r.after leaf new r.same in
    let value : (leaf_of planes at).value ≡ zeros = ap (λ (n : Node). n.value) new' in
    let alike = leaf_bits-alike (suc zeros) mb at planes fp sp leaf' (omega (arith, value)) (omega (arith, value)) in
    Gives-then bytes (leaf_read bytes 1 at fl) (behind_layer bytes mb at fp ats) p r.after (included_head block ∷ heads) (leaf_bits (suc zeros) planes at ++ numbers) bits end r.gives
    (λ q ahead. rw (some, behind_layer) (let z = zeros_read bytes mb at end zeros planes fp q numbers low sp leaf' new' ahead in
    let known : leaf_value z.after at ≡ Some zeros = told_value mb at zeros planes z.after leaf' new' z.same ∙ below zeros low in
    Gives-then bytes (leaf_read bytes mb at fp) (behind_zeros bytes mb at r.after ats) q z.after (included_head block ∷ heads) numbers bits end z.gives
    (λ s there. Gives-then bytes (included_read bytes mb at z.after) (behind_head bytes mb r.after z.after ats) s (included_head block) (included_head block ∷ heads) rest bits end
    (included-head-is bytes mb at end block z.after s rest small ok inc known there)
    (λ u last. head_joined bytes mb end r.after z.after ats (included_head block) heads u bits
    (next r.after z.after r.same (subst (λ (tree : Tree). AreSameTrees tree z.after) (sym alike.1) z.same) u last)))))
  where
    below : (n : ℕ) → n < mb → (if nat_lt n mb then Some n else None) ≡ Some n
    below n low = rw (lt-ltb n mb low) refl

bits-in : (layers planes : Tree) (at : ℕ) (block : PacketBlock) (blocks : List PacketBlock) (bits : List Bool) → block.included ≡ true
    → blocks_bits layers planes at (block ∷ blocks) ++ bits
    ≡ leaf_bits 1 layers at ++ (leaf_bits (suc block.zero_planes) planes at ++ (pass_bits block.passes ++ (length_bits block.passes (length block.codeword)
    ++ (blocks_bits (leaf_told 1 layers at) (leaf_told (suc block.zero_planes) planes at) (suc at) blocks ++ bits))))
unfolding blocks_bits
bits-in layers planes at block blocks bits inc =
    rw inc (apart (leaf_bits 1 layers at) (leaf_bits (suc block.zero_planes) planes at) (pass_bits block.passes) (length_bits block.passes (length block.codeword))
    (blocks_bits (leaf_told 1 layers at) (leaf_told (suc block.zero_planes) planes at) (suc at) blocks))
  where
    apart : (a b c d e : List Bool) → a ++ (b ++ c ++ d) ++ e ++ bits ≡ a ++ (b ++ (c ++ (d ++ (e ++ bits))))
    apart a b c d e =
        append_assoc (a ++ (b ++ c ++ d)) e bits ∙ append_assoc a (b ++ c ++ d) (e ++ bits)
        ∙ ap (λ xs. a ++ xs) (append_assoc (b ++ c) d (e ++ bits) ∙ append_assoc b c (d ++ (e ++ bits)))

bits-out : (layers planes : Tree) (at : ℕ) (block : PacketBlock) (blocks : List PacketBlock) (bits : List Bool) → block.included ≡ false
    → blocks_bits layers planes at (block ∷ blocks) ++ bits ≡ leaf_bits 1 layers at ++ (blocks_bits (leaf_told 1 layers at) planes (suc at) blocks ++ bits)
unfolding blocks_bits
bits-out layers planes at block blocks bits out =
    rw (out, append-nil (leaf_bits 1 layers at)) (append_assoc (leaf_bits 1 layers at) (blocks_bits (leaf_told 1 layers at) planes (suc at) blocks) bits)

from_first : (at n : ℕ) → at ∷ range_with_len (suc at) n ≡ range_with_len at (suc n)
from_first at n =
    let same : suc at ≡ at + 1 = omega arith in
    ap (λ m. at ∷ range_with_len m n) same

pub blocks_read-is : (bytes : List ℕ) (mb at end : ℕ) (blocks : List PacketBlock) (layers planes : Tree) (fl fp : FoundTree) (p : BitPlace) (bits : List Bool)
    → mb ≤ 31 → All (IsReadable mb) blocks → AreSameTrees layers fl → AreSameTrees planes fp
    → HasNewLeaves layers at (map first_layer blocks) → HasNewLeaves planes at (map missing_planes blocks)
    → IsAhead bytes p (blocks_bits layers planes at blocks ++ bits) end
    → Gives bytes (blocks_read bytes mb fl fp (range_with_len at (length blocks))) p (map head_of blocks) bits end
unfolding blocks_read blocks_bits
blocks_read-is bytes mb at end [] layers planes fl fp p bits small all sl sp nl np here = Gives-done bytes p [] bits end here
blocks_read-is bytes mb at end (block ∷ blocks) layers planes fl fp p bits small all sl sp nl np here = elim (cases_Bool block.included) [
  | inl inc ↦ (let zeros : ℕ = block.zero_planes in
      let layer : first_layer block ≡ 0 = rw inc refl in
      let missing : missing_planes block ≡ zeros = rw inc refl in
      subst₂ (λ ats h. Gives bytes (blocks_read bytes mb fl fp ats) p (h ∷ map head_of blocks) bits end) (from_first at (length blocks)) (head-included block inc)
      (let_in bytes mb at end block (range_with_len (suc at) (length blocks)) (map head_of blocks) (blocks_bits (leaf_told 1 layers at) (leaf_told (suc zeros) planes at) (suc at) blocks ++ bits) bits
      layers planes fl fp p small (all 0 block (omega arith)) inc sl sp (first_there layers at _ _ nl) (first_new layers at _ _ nl ∙ ap new_node layer) (first_there planes at _ _ np) (first_new planes at _ _ np ∙ ap new_node missing)
      (subst (λ xs. IsAhead bytes p xs end) (bits-in layers planes at block blocks bits inc) here)
      (λ fl' fp' sl' sp' q ahead. blocks_read-is bytes mb (suc at) end blocks (leaf_told 1 layers at) (leaf_told (suc zeros) planes at) fl' fp' q bits small (λ k d inside. all (suc k) d (omega arith)) sl' sp'
      (told_leaves 1 layers at _ _ nl) (told_leaves (suc zeros) planes at _ _ np) ahead)))
  | inr out ↦ (let layer : first_layer block ≡ 1 = rw out refl in
      let none : no_head ≡ head_of block = rw out refl in
      subst₂ (λ ats h. Gives bytes (blocks_read bytes mb fl fp ats) p (h ∷ map head_of blocks) bits end) (from_first at (length blocks)) none
      (left_out bytes mb at end (range_with_len (suc at) (length blocks)) (map head_of blocks) (blocks_bits (leaf_told 1 layers at) planes (suc at) blocks ++ bits) bits
      layers planes fl fp p sl sp (first_there layers at _ _ nl) (first_new layers at _ _ nl ∙ ap new_node layer)
      (subst (λ xs. IsAhead bytes p xs end) (bits-out layers planes at block blocks bits out) here)
      (λ fl' fp' sl' sp' q ahead. blocks_read-is bytes mb (suc at) end blocks (leaf_told 1 layers at) planes fl' fp' q bits small (λ k d inside. all (suc k) d (omega arith)) sl' sp'
      (told_leaves 1 layers at _ _ nl) (later_leaves planes at _ _ np) ahead)))
]

-- ---- a sub-band

new_leaves : (columns rows : ℕ) (values : List ℕ) → length values ≡ rows * columns → HasNewLeaves (new_tree columns rows values) 0 values
new_leaves columns rows values size = record {
  there = λ i inside. subst (λ n. HasLeaf (new_tree columns rows values) n) (same i) (HasLeaf-new columns rows values i size (subst (λ n. i < n) size inside));
  new = λ i inside. subst (λ n. leaf_of (new_tree columns rows values) n ≡ new_node (slice_index values i)) (same i) (leaf_of-new columns rows values i size (subst (λ n. i < n) size inside));
}
  where
    same : (i : ℕ) → i ≡ 0 + i
    same i = omega arith

pub band_read-is : (bytes : List ℕ) (end : ℕ) (band : PacketBand) (shape : BandShape) (p : BitPlace) (bits : List Bool)
    → IsInOrder shape band → IsAhead bytes p (band_bits band ++ bits) end → Gives bytes (band_read bytes shape) p (map head_of band.blocks) bits end
band_read-is bytes end band shape p bits order here =
    let layers : length (map first_layer band.blocks) ≡ band.rows * band.columns = length-map band.blocks first_layer ∙ order.count in
    let planes : length (map missing_planes band.blocks) ≡ band.rows * band.columns = length-map band.blocks missing_planes ∙ order.count in
    let size : length band.blocks ≡ band.columns * band.rows = omega (arith, order.count) in
    let read = blocks_read-is bytes shape.mb 0 end band.blocks (new_tree band.columns band.rows (map first_layer band.blocks)) (new_tree band.columns band.rows (map missing_planes band.blocks))
    (blank_tree band.columns band.rows) (blank_tree band.columns band.rows) p bits order.planes order.blocks
    (AreSameTrees-new band.columns band.rows (map first_layer band.blocks) layers) (AreSameTrees-new band.columns band.rows (map missing_planes band.blocks) planes)
    (new_leaves band.columns band.rows (map first_layer band.blocks) layers) (new_leaves band.columns band.rows (map missing_planes band.blocks) planes) here in
    let sized = subst (λ n. Gives bytes (blocks_read bytes shape.mb (blank_tree band.columns band.rows) (blank_tree band.columns band.rows) (range_with_len 0 n)) p (map head_of band.blocks) bits end) size read in
    let wide = subst (λ c. Gives bytes (blocks_read bytes shape.mb (blank_tree c band.rows) (blank_tree c band.rows) (range_with_len 0 (c * band.rows))) p (map head_of band.blocks) bits end) order.columns sized in
    subst (λ r. Gives bytes (blocks_read bytes shape.mb (blank_tree shape.columns r) (blank_tree shape.columns r) (range_with_len 0 (shape.columns * r))) p (map head_of band.blocks) bits end) order.rows wide

-- ---- all sub-bands

pub bands_read-is : (bytes : List ℕ) (end : ℕ) (shapes : List BandShape) (bands : List PacketBand) (p : BitPlace) (bits : List Bool)
    → AreInOrder shapes bands → IsAhead bytes p (flat_map band_bits bands ++ bits) end → Gives bytes (bands_read bytes shapes) p (map band_heads bands) bits end
unfolding bands_read
bands_read-is bytes end [] [] p bits order here = Gives-done bytes p [] bits end here
bands_read-is bytes end [] (band ∷ bands) p bits order here = absurd order
bands_read-is bytes end (shape ∷ shapes) [] p bits order here = absurd order
bands_read-is bytes end (shape ∷ shapes) (band ∷ bands) p bits order here =
    let rest : List Bool = flat_map band_bits bands ++ bits in
    Gives-then bytes (band_read bytes shape) (λ heads. bands_read bytes shapes >>= (λ more. done (heads ∷ more))) p (band_heads band) (map band_heads (band ∷ bands)) rest bits end
    (band_read-is bytes end band shape p rest order.0 (subst (λ xs. IsAhead bytes p xs end) (append_assoc (band_bits band) (flat_map band_bits bands) bits) here))
    (λ q ahead. Gives-then bytes (bands_read bytes shapes) (λ more. done (band_heads band ∷ more)) q (map band_heads bands) (map band_heads (band ∷ bands)) bits bits end
    (bands_read-is bytes end shapes bands q bits order.1 ahead)
    (λ r last. Gives-done bytes r (map band_heads (band ∷ bands)) bits end last))
