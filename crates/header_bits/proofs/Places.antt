-- The steps of one bit.
use Rattle.std.proofs.Common.{◌≡◌, ◌≢◌, ◌∙◌, ℕ, zero, suc, ◌-◌, ◌<◌, ◌≤◌, ◌⊎◌, inl, inr, refl, ap, arith, Bool, true, false, List, length, Ok, Err}
use Rattle.std.specs.Prelude.{◌==◌, ◌&&◌, nat_le, if◌then◌else◌, slice_index}
use Rattle.std.proofs.lemmas.Bool.{eq-eqb, ne_eqb, le-leb, lt-leb}
use Rattle.codec_terms.specs.declared.packet.HeadRefusal.{HeadRefusal}
use Rattle.codec_terms.specs.declared.packet.HeadRefusal.TheVariants.{Truncated, BadStuffing}
use Rattle.codec_terms.specs.PacketReading.{BitPlace, byte_read, top_bit, bit_of, bit_read}
use Rattle.header_bits.proofs.Steps.{then-ok, then-err}

not-both : (b c : Bool) → ((b ≡ true) × (c ≡ false)) ⊎ (b ≡ false) → (b && c) ≡ false
not-both true c (inl h) = h.1
not-both true c (inr h) = cc
not-both false c h = refl

module _ (bytes : List ℕ) where
  pub byte_read-past : (p : BitPlace) → length bytes ≤ p.next → byte_read bytes p ≡ Err (Truncated (length bytes))
  unfolding byte_read
  byte_read-past p past = rw (le-leb (length bytes) p.next past) refl

  pub byte_read-stuffed : (p : BitPlace) → p.next < length bytes → p.byte ≡ 255 → 128 ≤ slice_index bytes p.next → byte_read bytes p ≡ Err (BadStuffing p.next)
  unfolding byte_read
  byte_read-stuffed p there ff high = rw (lt-leb (length bytes) p.next there, eq-eqb p.byte 255 ff, le-leb 128 (slice_index bytes p.next) high) refl

  pub byte_read-fine : (p : BitPlace) → p.next < length bytes → ((p.byte ≡ 255) × (slice_index bytes p.next < 128)) ⊎ (p.byte ≢ 255)
      → byte_read bytes p ≡ Ok (record { next = suc p.next; byte = slice_index bytes p.next; left = if p.byte == 255 then 7 else 8 })
  unfolding byte_read
  byte_read-fine p there fine =
      let low : (p.byte == 255 && nat_le 128 (slice_index bytes p.next)) ≡ false =
      not-both (p.byte == 255) (nat_le 128 (slice_index bytes p.next)) (elim fine [
        | inl h ↦ inl (eq-eqb p.byte 255 h.0, lt-leb 128 (slice_index bytes p.next) h.1)
        | inr h ↦ inr (ne_eqb p.byte 255 h)
      ]) in
      rw (lt-leb (length bytes) p.next there, low) refl

  -- ---- a bit

  bit_of-some : (left : ℕ) (p : BitPlace) → 0 < left → bit_of bytes left p ≡ Ok (top_bit bytes p (left - 1))
  bit_of-some zero p some = absurd (omega arith)
  bit_of-some (suc left) p some =
      let same : left ≡ suc left - 1 = omega arith in
      ap (λ left. Ok (top_bit bytes p left)) same

  pub bit_read-in_byte : (p : BitPlace) → 0 < p.left → bit_read bytes p ≡ Ok (top_bit bytes p (p.left - 1))
  unfolding bit_read
  bit_read-in_byte p some = bit_of-some p.left p some

  pub bit_read-next_byte : (p q : BitPlace) → p.left ≡ 0 → byte_read bytes p ≡ Ok q → bit_read bytes p ≡ Ok (top_bit bytes q (q.left - 1))
  unfolding bit_read
  bit_read-next_byte p q none h =
      ap (λ left. bit_of bytes left p) none ∙ then-ok (byte_read bytes p) (λ q. Ok (top_bit bytes q (q.left - 1))) q h

  pub bit_read-refused : (p : BitPlace) (refusal : HeadRefusal) → p.left ≡ 0 → byte_read bytes p ≡ Err refusal → bit_read bytes p ≡ Err refusal
  unfolding bit_read
  bit_read-refused p refusal none h =
      ap (λ left. bit_of bytes left p) none ∙ then-err (byte_read bytes p) (λ q. Ok (top_bit bytes q (q.left - 1))) refusal h
