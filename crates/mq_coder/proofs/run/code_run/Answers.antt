use Rattle.std.proofs.Common.{map, take, subst, sym, rules}
use Rattle.mq_coder.specs.Bytes.{IsGrown}
use Rattle.mq_coder.specs.Decisions.{decision_of}
use Rattle.mq_coder.specs.Runs.{encoder_at}
use Rattle.mq_coder.proofs.Resume.{run-none, run-more, run-grown}
use Rattle.mq_coder.proofs.run.code_run.Goals as goal

pub loop-decision-init : goal.loop-decision-init
loop-decision-init c =
    record {
      ready = c.requires.ready;
      states = c.requires.states;
      coded = run-none (encoder_at c.args.at c.args.bytes.now c.args.states.now) decision_of c.args.decisions.now;
    }

pub loop-decision-preserved : goal.loop-decision-preserved
loop-decision-preserved c =
    record {
      ready = c.in_ok-now.ensures.ready;
      states = c.code_one.ensures.states;
      coded =
          run-more (encoder_at c.args.at c.args.bytes.now c.args.states.now)
          (encoder_at c.loop-decision.now c.loop-decision.bytes c.loop-decision.states)
          (encoder_at c.in_ok-now.now c.code_one.new.bytes c.code_one.new.states)
          decision_of c.args.decisions.now c.loop-decision.decision-index c.loop-decision-test.true c.loop-decision.invariant.coded
          c.in_ok-now.ensures.ok;
    }

pub returns-in_err-now-clause-grown : goal.returns-in_err-now-clause-grown
returns-in_err-now-clause-grown c =
    let grown : IsGrown c.args.bytes.now c.code_one.new.bytes =
    subst (IsGrown c.args.bytes.now) (sym c.in_err-now.ensures.bytes_stay)
    (run-grown c.args.at c.loop-decision.now c.args.bytes.now c.loop-decision.bytes c.args.states.now c.loop-decision.states
    (map decision_of (take c.loop-decision.decision-index c.args.decisions.now)) c.requires.ready c.loop-decision.invariant.coded) in
    search (rules, grown)
