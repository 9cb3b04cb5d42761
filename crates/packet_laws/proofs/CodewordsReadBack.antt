-- Codewords that stand behind a header are read back.
use Rattle.std.proofs.Common.{◌≡◌, ℕ, ◌+◌, ◌-◌, ◌≤◌, refl, sym, ap, subst, subst₂, ◌∙◌, arith, true, false, List, [], ◌∷◌, ◌++◌, length, append_assoc, inl, inr}
use Rattle.std.specs.Prelude.{nat_lt, map, Ok}
use Rattle.std.specs.List.{slice_range, flat_map}
use Rattle.std.proofs.lemmas.Bool.{cases_Bool, le-ltb}
use Rattle.std.proofs.lemmas.List.{length-append}
use Rattle.std.proofs.Math.Seq.{take-append_seam, drop-append_seam}
use Rattle.codec_terms.specs.declared.packet.PacketBlock.{PacketBlock}
use Rattle.codec_terms.specs.PacketHeader.{block_codeword}
use Rattle.codec_terms.specs.PacketReading.{BlockHead, no_head, no_block, codewords_read}
use Rattle.packet_laws.specs.ReadBack.{included_head, head_of, read_of}

piece-is : (front piece rest : List ℕ) → slice_range (front ++ (piece ++ rest)) (length front) (length front + length piece) ≡ piece
piece-is front piece rest =
    let size : length front + length piece - length front ≡ length piece = omega arith in
    rw (size, drop-append_seam front (piece ++ rest)) (take-append_seam piece rest)

abbrev whole : PacketBlock → PacketBlock
whole block = record { included = true; zero_planes = block.zero_planes; passes = block.passes; codeword = block.codeword }

whole-is : (block : PacketBlock) → block.included ≡ true → whole block ≡ block
whole-is block inc =
    subst (λ b. (record { included = b; zero_planes = block.zero_planes; passes = block.passes; codeword = block.codeword }) ≡ block) inc refl

taken : (bytes : List ℕ) (block : PacketBlock) (heads : List BlockHead) (at next : ℕ) (blocks : List PacketBlock)
    → slice_range bytes at (at + length block.codeword) ≡ block.codeword → nat_lt (length bytes) (at + length block.codeword) ≡ false
    → codewords_read bytes heads (at + length block.codeword) ≡ Ok (blocks, next)
    → codewords_read bytes (included_head block ∷ heads) at ≡ Ok (whole block ∷ blocks, next)
unfolding codewords_read
taken bytes block heads at next blocks cut inside read = rw (inside, read, cut) refl

passed : (bytes : List ℕ) (heads : List BlockHead) (at next : ℕ) (blocks : List PacketBlock)
    → codewords_read bytes heads at ≡ Ok (blocks, next) → codewords_read bytes (no_head ∷ heads) at ≡ Ok (no_block ∷ blocks, next)
unfolding codewords_read
passed bytes heads at next blocks read = rw read refl

no_codewords : (bytes front : List ℕ) → codewords_read bytes [] (length front) ≡ Ok ([], length front + 0)
unfolding codewords_read
no_codewords bytes front =
    let same : length front ≡ length front + 0 = omega arith in
    ap (λ (n : ℕ). Ok ([], n)) same

read-in : (block : PacketBlock) → block.included ≡ true → whole block ≡ read_of block
read-in block inc = whole-is block inc ∙ kept
  where
    kept : block ≡ read_of block
    kept = rw inc refl

pub codewords_read-is : (bytes front rest : List ℕ) (blocks : List PacketBlock)
    → bytes ≡ front ++ (flat_map block_codeword blocks ++ rest)
    → codewords_read bytes (map head_of blocks) (length front) ≡ Ok (map read_of blocks, length front + length (flat_map block_codeword blocks))
codewords_read-is bytes front rest [] here =
    no_codewords bytes front
codewords_read-is bytes front rest (block ∷ blocks) here = elim (cases_Bool block.included) [
  | inl inc ↦ (let code : List ℕ = block.codeword in
      let behind : List ℕ = flat_map block_codeword blocks in
      let later : List ℕ = behind ++ rest in
      let own : block_codeword block ≡ code = rw inc refl in
      let there : bytes ≡ front ++ (code ++ later) = here ∙ ap (λ xs. front ++ ((xs ++ behind) ++ rest)) own ∙ ap (λ xs. front ++ xs) (append_assoc code behind rest) in
      let joined : length (front ++ code) ≡ length front + length code = length-append front code in
      let sized : length bytes ≡ length front + (length code + length later) =
      ap length there ∙ length-append front (code ++ later) ∙ ap (λ n. length front + n) (length-append code later) in
      let room : length front + length code ≤ length bytes = omega (arith, sized) in
      let cut = subst (λ xs. slice_range xs (length front) (length front + length code) ≡ code) (sym there) (piece-is front code later) in
      let read = codewords_read-is bytes (front ++ code) rest blocks (there ∙ sym (append_assoc front code later)) in
      let read_on = subst (λ n. codewords_read bytes (map head_of blocks) n ≡ Ok (map read_of blocks, n + length behind)) joined read in
      let end : length front + length code + length behind ≡ length front + length (code ++ behind) = omega (arith, length-append code behind) in
      let all = taken bytes block (map head_of blocks) (length front) (length front + length code + length behind) (map read_of blocks) cut (le-ltb (length bytes) (length front + length code) room) read_on in
      let head : included_head block ≡ head_of block = rw inc refl in
      let counted = all ∙ ap (λ (n : ℕ). Ok (whole block ∷ map read_of blocks, n)) end in
      let named = subst₂ (λ h b. codewords_read bytes (h ∷ map head_of blocks) (length front) ≡ Ok (b ∷ map read_of blocks, length front + length (code ++ behind))) head (read-in block inc) counted in
      subst (λ xs. codewords_read bytes (map head_of (block ∷ blocks)) (length front) ≡ Ok (map read_of (block ∷ blocks), length front + length (xs ++ behind))) (sym own) named)
  | inr out ↦ (let behind : List ℕ = flat_map block_codeword blocks in
      let none : block_codeword block ≡ [] = rw out refl in
      let there : bytes ≡ front ++ (behind ++ rest) = here ∙ ap (λ xs. front ++ ((xs ++ behind) ++ rest)) none in
      let read = codewords_read-is bytes front rest blocks there in
      let head : no_head ≡ head_of block = rw out refl in
      let kept : no_block ≡ read_of block = rw out refl in
      let all = passed bytes (map head_of blocks) (length front) (length front + length behind) (map read_of blocks) read in
      let named = subst₂ (λ h b. codewords_read bytes (h ∷ map head_of blocks) (length front) ≡ Ok (b ∷ map read_of blocks, length front + length behind)) head kept all in
      subst (λ xs. codewords_read bytes (map head_of (block ∷ blocks)) (length front) ≡ Ok (map read_of (block ∷ blocks), length front + length (xs ++ behind))) (sym none) named)
]
