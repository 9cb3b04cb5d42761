-- The lengths of codewords.
use Rattle.std.proofs.Common.{◌≡◌, ◌∙◌, ℕ, suc, ◌+◌, ◌-◌, ◌*◌, ◌^◌, ◌<◌, ◌≤◌, refl, sym, ap, arith, List, Ok, Err}
use Rattle.std.specs.Int.{leading_zeros, w64}
use Rattle.std.specs.Int.Count.{leading_unique}
use Rattle.std.proofs.Math.Nat.{pow-succ'}
use Rattle.std.proofs.lemmas.Bool.{lt-ltb, le-ltb}
use Rattle.codec_terms.specs.declared.packet.HeadRefusal.TheVariants.{WideLength}
use Rattle.codec_terms.specs.Bits.{log2}
use Rattle.codec_terms.specs.PacketReading.{BitPlace, number_read, ones_read, size_of_bits, size_read}
use Rattle.header_bits.proofs.Steps.{then-ok}

pub log2-is : (n m r : ℕ) → m ≡ n → 2 ^ r ≤ m → m < 2 * 2 ^ r → r < 64 → r ≡ log2 n
log2-is n m r same low high few =
    let top : 2 ^ suc r ≡ 2 * 2 ^ r = pow-succ' 2 r ∙ omega arith in
    let zeros : 64 - suc r ≡ leading_zeros w64 n = leading_unique 64 n (64 - suc r) (suc r) (omega arith) (omega arith) (omega arith) in
    omega arith

module _ (bytes : List ℕ) where
  pub size_of_bits-wide : (n : ℕ) (p : BitPlace) → 32 < n → size_of_bits bytes n p ≡ Err (WideLength (p.next - 1) n)
  size_of_bits-wide n p wide = rw (lt-ltb 32 n wide) refl

  pub size_of_bits-fine : (n : ℕ) (p : BitPlace) → n ≤ 32 → size_of_bits bytes n p ≡ number_read bytes n 0 p
  size_of_bits-fine n p fine = rw (le-ltb 32 n fine) refl

  pub size_read-bits : (passes ones log : ℕ) (p q : BitPlace) → ones_read bytes p ≡ Ok (ones, q) → log ≡ log2 passes → size_read bytes passes p ≡ size_of_bits bytes (3 + ones + log) q
  size_read-bits passes ones log p q h same =
      then-ok (ones_read bytes p) (λ r. size_of_bits bytes (3 + r.0 + log2 passes) r.1) (ones, q) h
      ∙ ap (λ log. size_of_bits bytes (3 + ones + log) q) (sym same)
