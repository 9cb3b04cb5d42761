-- Bytes that come out of the encoder, and doublings by a count.
use Rattle.std.specs.Prelude.{◌≡◌, ◌≤◌, ℕ, ◌-◌, zero, suc, List, [], ◌∷◌, ◌++◌, Option, None, Some, length, take, reverse}
use Rattle.codec_terms.specs.Mq.{Registers, last_byte, byte_out, doubled}
use Rattle.mq_coder.specs.declared.interval.NextByte.{NextByte}
use Rattle.mq_coder.specs.declared.interval.Interval.{Interval}

-- the bytes, the last one first, with this one in the last one's place
abbrev pub with_last : ℕ → List ℕ → List ℕ
with_last x [] = []
with_last x (b ∷ bs) = x ∷ bs

-- the charts' registers, of an interval and the bytes that came out in order
abbrev pub registers_of : Interval → List ℕ → Registers
registers_of at bytes = record { a = at.a; c = at.c; ct = at.ct; bytes = reverse bytes }

-- the byte that comes out behind a last byte, from a code register c
pub record IsNext (last c : ℕ) (n : NextByte) : Type 0 where
  pub out :
      (a ct : ℕ) (bytes : List ℕ) → last_byte bytes ≡ last →
      byte_out (record { a = a; c = c; ct = ct; bytes = bytes }) ≡
      record { a = a; c = n.c; ct = n.ct; bytes = n.byte ∷ with_last n.last bytes }

unfoldable pub doublings : ℕ → Registers → Registers
doublings zero r = r
doublings (suc n) r = doublings n (doubled r)

-- the list, and the item behind it if there is one
abbrev pub with_item : List ℕ → Option ℕ → List ℕ
with_item xs None = xs
with_item xs (Some x) = xs ++ x ∷ []

-- bytes came behind these, of which the last may have changed
pub record IsGrown (before after : List ℕ) : Type 0 where
  pub more : length before ≤ length after
  pub front : take (length before - 1) after ≡ take (length before - 1) before
