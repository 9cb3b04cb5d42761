-- Numbers, bit by bit.
use Rattle.std.proofs.Common.{◌≡◌, ℕ, suc, ◌+◌, ◌*◌, ◌^◌, ◌<◌, ◌≤◌, refl, arith, Bool, true, false, List, Result, Ok, Err}
use Rattle.std.specs.Prelude.{if◌then◌else◌}
use Rattle.std.specs.Int.{from_bool}
use Rattle.std.proofs.Math.Nat.{pow-succ'}
use Rattle.codec_terms.specs.declared.packet.HeadRefusal.{HeadRefusal}
use Rattle.codec_terms.specs.Reading.{done}
use Rattle.codec_terms.specs.PacketReading.{BitPlace, bit_read, number_read, ones_read_within}
use Rattle.header_bits.specs.declared.zeros.Zeros.{Zeros}
use Rattle.header_bits.specs.Zeros.{zeros_found, zeros_read}
use Rattle.header_bits.proofs.Steps.{then-ok, then-err}

-- a number of i bits and one bit more
pub one_bit_more : (n bit i j : ℕ) → n < 2 ^ i → bit ≤ 1 → j ≡ i + 1 → 2 * n + bit < 2 ^ j
one_bit_more n bit i j small one next =
    let same : j ≡ suc i = omega arith in
    rw (same, pow-succ' 2 i) (omega arith)

pub bit_is_small : (bit : Bool) → from_bool bit ≤ 1
bit_is_small true = omega arith
bit_is_small false = omega arith

module _ (bytes : List ℕ) where
  pub number_read-none : (k n : ℕ) (p : BitPlace) → k ≡ 0 → number_read bytes k n p ≡ Ok (n, p)
  unfolding number_read
  number_read-none k n p none = rw none refl

  pub number_read-more : (k j n m : ℕ) (bit : Bool) (p q : BitPlace) → bit_read bytes p ≡ Ok (bit, q) → k ≡ suc j → m ≡ 2 * n + from_bool bit
      → number_read bytes k n p ≡ number_read bytes j m q
  unfolding number_read
  number_read-more k j n m bit p q h one value =
      rw (one, value) (then-ok (bit_read bytes p) (λ r. number_read bytes j (2 * n + from_bool r.0) r.1) (bit, q) h)

  pub number_read-err : (k j n : ℕ) (p : BitPlace) (refusal : HeadRefusal) → bit_read bytes p ≡ Err refusal → k ≡ suc j → number_read bytes k n p ≡ Err refusal
  unfolding number_read
  number_read-err k j n p refusal h one =
      rw one (then-err (bit_read bytes p) (λ r. number_read bytes j (2 * n + from_bool r.0) r.1) refusal h)

  -- ---- ones

  abbrev pub ones_behind : ℕ → ℕ → Bool × BitPlace → Result (ℕ × BitPlace) HeadRefusal
  ones_behind k n r = (if r.0 then ones_read_within bytes k (suc n) else done n) r.1

  pub ones_read_within-none : (k n : ℕ) (p : BitPlace) → k ≡ 0 → ones_read_within bytes k n p ≡ Ok (n, p)
  unfolding ones_read_within
  ones_read_within-none k n p none = rw none refl

  pub ones_read_within-more : (k j n m : ℕ) (p q : BitPlace) → bit_read bytes p ≡ Ok (true, q) → k ≡ suc j → m ≡ suc n
      → ones_read_within bytes k n p ≡ ones_read_within bytes j m q
  unfolding ones_read_within
  ones_read_within-more k j n m p q h one next = rw (one, next) (then-ok (bit_read bytes p) (ones_behind j n) (true, q) h)

  pub ones_read_within-end : (k j n : ℕ) (p q : BitPlace) → bit_read bytes p ≡ Ok (false, q) → k ≡ suc j → ones_read_within bytes k n p ≡ Ok (n, q)
  unfolding ones_read_within
  ones_read_within-end k j n p q h one = rw one (then-ok (bit_read bytes p) (ones_behind j n) (false, q) h)

  pub ones_read_within-err : (k j n : ℕ) (p : BitPlace) (refusal : HeadRefusal) → bit_read bytes p ≡ Err refusal → k ≡ suc j → ones_read_within bytes k n p ≡ Err refusal
  unfolding ones_read_within
  ones_read_within-err k j n p refusal h one = rw one (then-err (bit_read bytes p) (ones_behind j n) refusal h)

  -- ---- zeros

  abbrev zeros_behind : ℕ → ℕ → Bool × BitPlace → Result (Zeros × BitPlace) HeadRefusal
  zeros_behind k n r = (if r.0 then done (zeros_found n true) else zeros_read bytes k (suc n)) r.1

  pub zeros_read-none : (k n : ℕ) (p : BitPlace) → k ≡ 0 → zeros_read bytes k n p ≡ Ok (zeros_found n false, p)
  unfolding zeros_read
  zeros_read-none k n p none = rw none refl

  pub zeros_read-more : (k j n m : ℕ) (p q : BitPlace) → bit_read bytes p ≡ Ok (false, q) → k ≡ suc j → m ≡ suc n
      → zeros_read bytes k n p ≡ zeros_read bytes j m q
  unfolding zeros_read
  zeros_read-more k j n m p q h one next = rw (one, next) (then-ok (bit_read bytes p) (zeros_behind j n) (false, q) h)

  pub zeros_read-end : (k j n : ℕ) (p q : BitPlace) → bit_read bytes p ≡ Ok (true, q) → k ≡ suc j → zeros_read bytes k n p ≡ Ok (zeros_found n true, q)
  unfolding zeros_read
  zeros_read-end k j n p q h one = rw one (then-ok (bit_read bytes p) (zeros_behind j n) (true, q) h)

  pub zeros_read-err : (k j n : ℕ) (p : BitPlace) (refusal : HeadRefusal) → bit_read bytes p ≡ Err refusal → k ≡ suc j → zeros_read bytes k n p ≡ Err refusal
  unfolding zeros_read
  zeros_read-err k j n p refusal h one = rw one (then-err (bit_read bytes p) (zeros_behind j n) refusal h)
