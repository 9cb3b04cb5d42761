-- The bits of block after block are counted.
use Rattle.std.proofs.Common.{◌≡◌, ℕ, suc, ◌+◌, ◌<◌, ◌≤◌, refl, sym, ap, ap₂, ◌∙◌, arith, Bool, true, false, List, [], ◌∷◌, ◌++◌, length, map, drop, get_or, append_assoc}
use Rattle.std.specs.Prelude.{if◌then◌else◌}
use Rattle.std.proofs.Math.Seq.{drop-cons}
use Rattle.std.proofs.lemmas.List.{drop_all, length-replicate}
use Rattle.codec_terms.specs.declared.packet.PacketBlock.{PacketBlock}
use Rattle.codec_terms.specs.TagTree.{Tree, leaf_bits, leaf_told}
use Rattle.codec_terms.specs.PacketHeader.{pass_bits, length_bits, included_bits, blocks_bits}
use Rattle.packet_head.specs.Writing.{block_bits, planes_then}
use Rattle.packet_size.specs.declared.sizes.BlockSize.{BlockSize}
use Rattle.packet_size.specs.Counting.{Counted, counted}
use Rattle.packet_size.specs.Sizes.{block_of}
use Rattle.packet_size.proofs.CountedInto.{counted-twice, counted-none}

-- ---- one block

pub included-counted : (c c1 c2 c3 : Counted) (planes : Tree) (at t passes : ℕ) (size : BlockSize) → t ≡ suc size.zero_planes → passes ≡ size.passes
    → c1 ≡ counted c (leaf_bits t planes at) → c2 ≡ counted c1 (pass_bits passes) → c3 ≡ counted c2 (length_bits passes size.len)
    → c3 ≡ counted c (included_bits planes at (block_of size))
included-counted c c1 c2 c3 planes at t passes size e p one two three =
    three
    ∙ ap₂ (λ (d : Counted) n. counted d (length_bits n size.len)) two p
    ∙ counted-twice c1 (pass_bits passes) (length_bits size.passes size.len)
    ∙ ap₂ (λ (d : Counted) n. counted d (pass_bits n ++ length_bits size.passes size.len)) one p
    ∙ counted-twice c (leaf_bits t planes at) (pass_bits size.passes ++ length_bits size.passes size.len)
    ∙ ap (counted c) (sym (append_assoc (leaf_bits t planes at) (pass_bits size.passes) (length_bits size.passes size.len)))
    ∙ ap₂ (λ t n. counted c ((leaf_bits t planes at ++ pass_bits size.passes) ++ length_bits size.passes n)) e (sym (length-replicate size.len 0))

pub block-left-out : (c c1 : Counted) (layers planes : Tree) (at : ℕ) (size : BlockSize) → size.included ≡ false → c1 ≡ counted c (leaf_bits 1 layers at)
    → c1 ≡ counted c (block_bits layers planes at (block_of size))
block-left-out c c1 layers planes at size e one =
    one ∙ ap (counted c) (sym (append-none (leaf_bits 1 layers at)))
    ∙ ap (λ (t : Bool). counted c (leaf_bits 1 layers at ++ (if t then included_bits planes at (block_of size) else []))) (sym e)
  where
    append-none : (xs : List Bool) → xs ++ [] ≡ xs
    append-none [] = refl
    append-none (x ∷ xs) = ap (λ ys. x ∷ ys) (append-none xs)

pub block-put : (c c1 c2 : Counted) (layers planes : Tree) (at : ℕ) (size : BlockSize) → size.included ≡ true → c1 ≡ counted c (leaf_bits 1 layers at)
    → c2 ≡ counted c1 (included_bits planes at (block_of size)) → c2 ≡ counted c (block_bits layers planes at (block_of size))
block-put c c1 c2 layers planes at size e one two =
    two ∙ ap (λ (d : Counted). counted d (included_bits planes at (block_of size))) one
    ∙ counted-twice c (leaf_bits 1 layers at) (included_bits planes at (block_of size))
    ∙ ap (λ (t : Bool). counted c (leaf_bits 1 layers at ++ (if t then included_bits planes at (block_of size) else []))) (sym e)

pub planes-left-out : (planes : Tree) (at : ℕ) (size : BlockSize) → size.included ≡ false → planes ≡ planes_then planes at (block_of size)
planes-left-out planes at size e = sym (rw e refl)

pub planes-put : (planes after : Tree) (at : ℕ) (size : BlockSize) → size.included ≡ true → after ≡ leaf_told (suc size.zero_planes) planes at → after ≡ planes_then planes at (block_of size)
planes-put planes after at size e is = is ∙ sym (rw e refl)

-- ---- block after block

blocks_bits-more : (layers planes : Tree) (at : ℕ) (block : PacketBlock) (blocks : List PacketBlock) → blocks_bits layers planes at (block ∷ blocks)
    ≡ block_bits layers planes at block ++ blocks_bits (leaf_told 1 layers at) (planes_then planes at block) (suc at) blocks
unfolding blocks_bits
blocks_bits-more layers planes at block blocks = refl

pub blocks-more : (c d all : Counted) (layers planes l p : Tree) (n at : ℕ) (sizes : List BlockSize) (outside : BlockSize) → at < length sizes → n ≡ at
    → d ≡ counted c (block_bits layers planes n (block_of (get_or sizes at outside))) → l ≡ leaf_told 1 layers n → p ≡ planes_then planes n (block_of (get_or sizes at outside))
    → counted c (blocks_bits layers planes at (map block_of (drop at sizes))) ≡ all
    → counted d (blocks_bits l p (at + 1) (map block_of (drop (at + 1) sizes))) ≡ all
blocks-more c d all layers planes l p n at sizes outside inside number one e f before =
    let size : BlockSize = get_or sizes at outside in
    let next : suc at ≡ at + 1 = omega arith in
    let split : drop at sizes ≡ size ∷ drop (suc at) sizes = drop-cons sizes at outside inside in
    let rest : List Bool = blocks_bits (leaf_told 1 layers at) (planes_then planes at (block_of size)) (suc at) (map block_of (drop (suc at) sizes)) in
    ap₂ (λ (l p : Tree). counted d (blocks_bits l p (at + 1) (map block_of (drop (at + 1) sizes)))) (e ∙ ap (leaf_told 1 layers) number) (f ∙ ap (λ n. planes_then planes n (block_of size)) number)
    ∙ ap (λ n. counted d (blocks_bits (leaf_told 1 layers at) (planes_then planes at (block_of size)) n (map block_of (drop n sizes)))) (sym next)
    ∙ ap (λ (d : Counted). counted d rest) (one ∙ ap (λ n. counted c (block_bits layers planes n (block_of size))) number)
    ∙ counted-twice c (block_bits layers planes at (block_of size)) rest
    ∙ ap (counted c) (sym (blocks_bits-more layers planes at (block_of size) (map block_of (drop (suc at) sizes))))
    ∙ ap (λ sizes. counted c (blocks_bits layers planes at (map block_of sizes))) (sym split)
    ∙ before

pub blocks-all : (c all : Counted) (layers planes : Tree) (at : ℕ) (sizes : List BlockSize) → length sizes ≤ at → counted c (blocks_bits layers planes at (map block_of (drop at sizes))) ≡ all → c ≡ all
unfolding blocks_bits
blocks-all c all layers planes at sizes past before =
    sym (counted-none c) ∙ ap (λ sizes. counted c (blocks_bits layers planes at (map block_of sizes))) (sym (drop_all at sizes past)) ∙ before

none-bits : (layers planes : Tree) (sizes : List BlockSize) → length sizes ≡ 0 → blocks_bits layers planes 0 (map block_of sizes) ≡ []
unfolding blocks_bits
none-bits layers planes [] e = refl
none-bits layers planes (size ∷ sizes) e = absurd (omega (arith, e))

pub band-none : (c : Counted) (layers planes : Tree) (sizes : List BlockSize) → length sizes ≡ 0 → c ≡ counted c (blocks_bits layers planes 0 (map block_of sizes))
band-none c layers planes sizes e = sym (ap (counted c) (none-bits layers planes sizes e) ∙ counted-none c)

pub map-twice : {A B C : Type 0} (f : A → B) (g : B → C) (xs : List A) → map (λ x. g (f x)) xs ≡ map g (map f xs)
map-twice f g [] = refl
map-twice {A} {B} {C} f g (x ∷ xs) = ap (λ (ys : List C). g (f x) ∷ ys) (map-twice f g xs)
