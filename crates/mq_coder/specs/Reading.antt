-- What contracts see of a reader: the decoder of the charts.
use Rattle.std.specs.Prelude.{ℕ, ◌<◌, ◌≤◌, ◌^◌, map, get_or}
use Rattle.codec_terms.specs.Mq.{Decoder}
use Rattle.mq_coder.specs.Rows.{state_of}
use Rattle.mq_coder.specs.Sources.{reading_of}
use Rattle.mq_coder.specs.declared.reader.Reader.TheInside.{Inside}

abbrev pub decoder_in : Inside → Decoder
decoder_in s = record { reading = reading_of s.at s.source; states = map state_of s.states }

pub record IsOpen (s : Inside) : Type 0 where
  pub wide : 0x8000 ≤ s.at.a
  pub narrow : s.at.a < 2 ^ 16
  pub shifts : s.at.ct ≤ 8
  pub states : (k : ℕ) → k < 19 → get_or s.states k 0 < 94
