-- What contracts see of a coder: the encoder of the charts.
use Rattle.codec_terms.specs.Mq.{Encoder}
use Rattle.mq_coder.specs.Bytes.{registers_of}
use Rattle.mq_laws.specs.Ready.{Ready}
use Rattle.mq_coder.specs.Rows.{HasStates}
use Rattle.mq_coder.specs.Runs.{encoder_at}
use Rattle.mq_coder.specs.declared.coder.Coder.TheInside.{Inside}

abbrev pub encoder_of : Inside → Encoder
encoder_of s = encoder_at s.at s.bytes s.states

pub record IsSound (s : Inside) : Type 0 where
  pub ready : Ready (registers_of s.at s.bytes)
  pub states : HasStates s.states
