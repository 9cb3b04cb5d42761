-- What decisions go on from.
use Rattle.std.specs.Prelude.{ℕ, List, map}
use Rattle.codec_terms.specs.Mq.{Encoder}
use Rattle.mq_coder.specs.Bytes.{registers_of}
use Rattle.mq_coder.specs.Rows.{state_of}
use Rattle.mq_coder.specs.declared.interval.Interval.{Interval}

-- the charts' encoder, of an interval, the bytes that came out in order, and the states as numbers
abbrev pub encoder_at : Interval → List ℕ → List ℕ → Encoder
encoder_at at bytes states = record { registers = registers_of at bytes; states = map state_of states }
