-- The bits of block after block.
use Rattle.std.proofs.Common.{◌≡◌, ℕ, suc, ◌+◌, ◌<◌, ◌≤◌, refl, sym, ap, ◌∙◌, arith, Bool, List, ◌∷◌, ◌++◌, length, drop, get_or, append_assoc, append-nil}
use Rattle.std.specs.Prelude.{Ok}
use Rattle.std.proofs.Math.Seq.{drop-cons}
use Rattle.std.proofs.lemmas.List.{drop_all}
use Rattle.codec_terms.specs.declared.packet.PacketBlock.{PacketBlock}
use Rattle.codec_terms.specs.declared.packet.PacketBand.{PacketBand}
use Rattle.codec_terms.specs.declared.packet.BandShape.{BandShape}
use Rattle.codec_terms.specs.TagTree.{Tree, leaf_told}
use Rattle.codec_terms.specs.PacketHeader.{blocks_bits, packet}
use Rattle.codec_terms.specs.PacketReading.{packet_read}
use Rattle.packet_laws.specs.ReadBack.{AreInOrder, packet_read_of}
use Rattle.packet_laws.proofs.PacketsReadBack.{packet_read-is}
use Rattle.packet_head.specs.Writing.{block_bits, planes_then}

blocks_bits-more : (layers planes : Tree) (at : ℕ) (block : PacketBlock) (blocks : List PacketBlock) → blocks_bits layers planes at (block ∷ blocks)
    ≡ block_bits layers planes at block ++ blocks_bits (leaf_told 1 layers at) (planes_then planes at block) (suc at) blocks
unfolding blocks_bits
blocks_bits-more layers planes at block blocks = refl

pub one-block-more : (layers planes : Tree) (at : ℕ) (blocks : List PacketBlock) (block : PacketBlock) (out all : List Bool) → at < length blocks → get_or blocks at block ≡ block
    → out ++ blocks_bits layers planes at (drop at blocks) ≡ all
    → (out ++ block_bits layers planes at block) ++ blocks_bits (leaf_told 1 layers at) (planes_then planes at block) (at + 1) (drop (at + 1) blocks) ≡ all
one-block-more layers planes at blocks block out all inside is before =
    let next : suc at ≡ at + 1 = omega arith in
    let split : drop at blocks ≡ block ∷ drop (suc at) blocks = drop-cons blocks at block inside ∙ ap (λ (b : PacketBlock). b ∷ drop (suc at) blocks) is in
    let rest : List Bool = blocks_bits (leaf_told 1 layers at) (planes_then planes at block) (suc at) (drop (suc at) blocks) in
    ap (λ n. (out ++ block_bits layers planes at block) ++ blocks_bits (leaf_told 1 layers at) (planes_then planes at block) n (drop n blocks)) (sym next)
    ∙ append_assoc out (block_bits layers planes at block) rest
    ∙ ap (λ bits. out ++ bits) (sym (blocks_bits-more layers planes at block (drop (suc at) blocks)))
    ∙ ap (λ blocks. out ++ blocks_bits layers planes at blocks) (sym split)
    ∙ before

pub all-blocks : (layers planes : Tree) (at : ℕ) (blocks : List PacketBlock) (out all : List Bool) → length blocks ≤ at → out ++ blocks_bits layers planes at (drop at blocks) ≡ all → out ≡ all
unfolding blocks_bits
all-blocks layers planes at blocks out all past before =
    sym (append-nil out) ∙ ap (λ blocks. out ++ blocks_bits layers planes at blocks) (sym (drop_all at blocks past)) ∙ before

-- ---- whole packets

pub written-read : (bytes : List ℕ) (bands : List PacketBand) → bytes ≡ packet bands → (shapes : List BandShape) (front rest : List ℕ) → AreInOrder shapes bands
    → packet_read (front ++ bytes ++ rest) (length front) shapes ≡ Ok (packet_read_of bands (length front + length bytes))
written-read bytes bands is shapes front rest order =
    packet_read-is (front ++ bytes ++ rest) front rest shapes bands order (ap (λ xs. front ++ xs ++ rest) is)
    ∙ ap (λ xs. Ok (packet_read_of bands (length front + length xs))) (sym is)
