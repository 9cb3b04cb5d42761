-- The end of the bytes that a flush gives.
use Rattle.std.specs.Prelude.{◌≡◌, ℕ, List, ◌∷◌}
use Rattle.codec_terms.specs.Mq.{last_byte, bits_set, shifted_out}
use Rattle.mq_coder.specs.Bytes.{with_last}
use Rattle.mq_coder.specs.declared.interval.Interval.{Interval}
use Rattle.mq_coder.specs.declared.tail.Tail.{Tail}

-- the flush of these registers, behind a last byte
pub record IsTail (last : ℕ) (at : Interval) (t : Tail) : Type 0 where
  pub out :
      (bytes : List ℕ) → last_byte bytes ≡ last →
      (shifted_out (shifted_out (bits_set (record { a = at.a; c = at.c; ct = at.ct; bytes = bytes })))).bytes ≡
      t.second ∷ t.first ∷ with_last t.last bytes
