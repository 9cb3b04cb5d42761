-- The codeword of one block, in front of those of the later blocks.
use Rattle.std.proofs.Common.{◌≡◌, ℕ, ◌+◌, ◌<◌, ◌≤◌, refl, true, false, List, [], ◌∷◌, length, Ok, Err}
use Rattle.std.specs.Prelude.{slice_range}
use Rattle.std.proofs.lemmas.Bool.{lt-ltb, le-ltb}
use Rattle.codec_terms.specs.declared.packet.HeadRefusal.TheVariants.{LengthPast}
use Rattle.codec_terms.specs.declared.packet.PacketBlock.{PacketBlock}
use Rattle.codec_terms.specs.PacketReading.{BlockHead, no_block, codewords_read}
use Rattle.packet_reading.proofs.Behind.{in_front}

module _ (bytes : List ℕ) (head : BlockHead) (more : List BlockHead) (at : ℕ) where
  pub not_included : (block : PacketBlock) → head.included ≡ false → block ≡ no_block → codewords_read bytes (head ∷ more) at ≡ in_front block (codewords_read bytes more at)
  unfolding codewords_read
  not_included block out same = rw (same, out) refl

  pub past_end : head.included ≡ true → length bytes < at + head.size → codewords_read bytes (head ∷ more) at ≡ Err (LengthPast at head.size)
  unfolding codewords_read
  past_end within past = rw (within, lt-ltb (length bytes) (at + head.size) past) refl

  pub taken : (zero_planes passes : ℕ) (codeword : List ℕ) (end : ℕ) → head.included ≡ true → at + head.size ≤ length bytes → end ≡ at + head.size
      → zero_planes ≡ head.zero_planes → passes ≡ head.passes → codeword ≡ slice_range bytes at end
      → codewords_read bytes (head ∷ more) at ≡ in_front (record { included = true; zero_planes = zero_planes; passes = passes; codeword = codeword }) (codewords_read bytes more end)
  unfolding codewords_read
  taken zero_planes passes codeword end within there same planes count is =
      rw (is, count, planes, same, within, le-ltb (length bytes) (at + head.size) there) refl

pub no_codewords : (bytes : List ℕ) (heads : List BlockHead) (at : ℕ) → heads ≡ [] → codewords_read bytes heads at ≡ Ok ([], at)
unfolding codewords_read
no_codewords bytes heads at none = rw none refl
