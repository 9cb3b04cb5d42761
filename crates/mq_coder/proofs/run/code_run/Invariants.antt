use Rattle.std.specs.Prelude.{◌≡◌, map, take}
use Rattle.codec_terms.specs.Mq.{coded_from}
use Rattle.mq_coder.specs.Bytes.{registers_of}
use Rattle.mq_coder.specs.Decisions.{decision_of}
use Rattle.mq_coder.specs.Rows.{HasStates}
use Rattle.mq_coder.specs.Runs.{encoder_at}
use Rattle.mq_laws.specs.Ready.{Ready}
use Rattle.mq_coder.proofs.run.code_run.Given as goal

abbrev pub invariant-loop-decision : goal.invariant-loop-decision
invariant-loop-decision l =
    record {
      ready : Ready (registers_of l.now l.bytes);
      states : HasStates l.states;
      coded :
          encoder_at l.now l.bytes l.states
          ≡ coded_from (encoder_at l.fn.at l.fn.bytes l.fn.states) (map decision_of (take l.decision-index l.decisions));
    }
