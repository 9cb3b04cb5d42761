-- What an ending says of the encoder that it was taken from.
use Rattle.std.specs.Prelude.{◌≡◌, ℕ, ◌+◌, bit_and, List, length, take, reverse}
use Rattle.codec_terms.specs.Mq.{Decision, Encoder, State, behind, flushed_bytes, coded}
use Rattle.mq_coder.specs.Marks.{mark_of}
use Rattle.mq_coder.specs.declared.ending.Ending.{Ending}
use Rattle.mq_coder.specs.declared.interval.Interval.{Interval}

abbrev pub ending_of : Encoder → Ending
ending_of e =
    record {
      length = length (flushed_bytes e);
      a = e.registers.a + mark_of e.registers.bytes;
      c = e.registers.c;
      ct = e.registers.ct;
      kept = length (behind e.registers.bytes);
    }

-- the ending was taken after these decisions, and the bytes begin with those that were kept
pub record Continues (ds : List Decision) (bytes : List ℕ) (ending : Ending) : Type 0 where
  pub taken : ending ≡ ending_of (coded ds)
  pub begins : take ending.kept bytes ≡ reverse (behind (coded ds).registers.bytes)

-- the coder of these decisions has paused: the ending and the states were taken after them
pub record HasPaused (ds : List Decision) (bytes : List ℕ) (ending : Ending) (states : List State) : Type 0 where
  pub continues : Continues ds bytes ending
  pub states_are : states ≡ (coded ds).states

-- the registers A, C and CT in an ending
abbrev pub interval_at : Ending → Interval
interval_at ending = record { a = bit_and ending.a 0xFFFF; c = ending.c; ct = ending.ct }
