use Rattle.std.proofs.Common.{◌≡◌, ◌/◌, cond, get_or, ap, subst, sym, ◌∙◌, arith}
use Rattle.std.specs.Prelude.{◌==◌, bit_and, nat_lt}
use Rattle.std.proofs.lemmas.Bool.{cond-true, cond-false, lt-ltb, le-ltb}
use Rattle.std.proofs.lemmas.Nat.{and_mask}
use Rattle.codec_terms.specs.Mq.{coded_one}
use Rattle.mq_coder.specs.Bytes.{registers_of}
use Rattle.mq_coder.specs.Rows.{state_of}
use Rattle.mq_coder.specs.Runs.{encoder_at}
use Rattle.mq_laws.proofs.Decisions.{qe-small, ready-coded_one}
use Rattle.mq_laws.specs.Ready.{Ready}
use Rattle.mq_coder.proofs.Coding.{step-valid, step-code, step-states}
use Rattle.mq_coder.proofs.run.code_one.Goals as goal
use Rattle.mq_coder.proofs.run.code_one.Goals.{then-part-lt32768, else-part-lt32768}

pub part_of-part-requires-clause-qe : goal.part_of-part-requires-clause-qe
part_of-part-requires-clause-qe c =
    omega (arith, c.step_of-step.ensures.qe, qe-small (state_of (get_or c.args.states.now (c.args.decision / 2) 0)))

pub renormalise-requires : goal.renormalise-requires
renormalise-requires c =
    step-valid c.args.states.now (c.args.decision / 2) (bit_and c.args.decision 1) c.step_of-step.result
    (registers_of c.args.at c.args.bytes.now) (registers_of c.part_of-part.result c.args.bytes.now) c.requires.ready
    c.step_of-step.ensures (c.part_of-part.ensures c.args.bytes.now)

pub returns-clause-ok : goal.returns-clause-ok
returns-clause-ok c =
    let chosen : c.if-part-lt32768.next ≡
    cond (nat_lt c.part_of-part.result.a 0x8000) c.step_of-step.result.next (get_or c.args.states.now (c.args.decision / 2) 0) =
    elim c.if-part-lt32768.branch [
      | then-part-lt32768 w ↦ w.next-is ∙ sym (cond-true _ _ _ (lt-ltb c.part_of-part.result.a 0x8000 w.if-part-lt32768.true))
      | else-part-lt32768 w ↦ w.next-is ∙ sym (cond-false _ _ _ (le-ltb c.part_of-part.result.a 0x8000 w.if-part-lt32768.false))
    ] in
    step-code c.args.states.now (c.args.decision / 2) (bit_and c.args.decision 1) c.if-part-lt32768.next c.step_of-step.result
    (registers_of c.args.at c.args.bytes.now) (registers_of c.part_of-part.result c.args.bytes.now)
    (registers_of c.in_ok-done.done c.renormalise.new.bytes) c.requires.ready c.step_of-step.ensures
    (c.part_of-part.ensures c.args.bytes.now) c.in_ok-done.ensures.ok chosen
    ∙ ap (λ m. coded_one (encoder_at c.args.at c.args.bytes.now c.args.states.now)
    (record { context = c.args.decision / 2; bit = m == 1 })) (and_mask c.args.decision 1)

pub returns-clause-states : goal.returns-clause-states
returns-clause-states c =
    let chosen : c.if-part-lt32768.next ≡
    cond (nat_lt c.part_of-part.result.a 0x8000) c.step_of-step.result.next (get_or c.args.states.now (c.args.decision / 2) 0) =
    elim c.if-part-lt32768.branch [
      | then-part-lt32768 w ↦ w.next-is ∙ sym (cond-true _ _ _ (lt-ltb c.part_of-part.result.a 0x8000 w.if-part-lt32768.true))
      | else-part-lt32768 w ↦ w.next-is ∙ sym (cond-false _ _ _ (le-ltb c.part_of-part.result.a 0x8000 w.if-part-lt32768.false))
    ] in
    step-states c.args.states.now (c.args.decision / 2) (bit_and c.args.decision 1) c.if-part-lt32768.next c.step_of-step.result
    c.part_of-part.result.a c.requires.states (omega (arith, c.requires.decision)) c.step_of-step.ensures chosen

pub returns-clause-ready : goal.returns-clause-ready
returns-clause-ready c =
    let chosen : c.if-part-lt32768.next ≡
    cond (nat_lt c.part_of-part.result.a 0x8000) c.step_of-step.result.next (get_or c.args.states.now (c.args.decision / 2) 0) =
    elim c.if-part-lt32768.branch [
      | then-part-lt32768 w ↦ w.next-is ∙ sym (cond-true _ _ _ (lt-ltb c.part_of-part.result.a 0x8000 w.if-part-lt32768.true))
      | else-part-lt32768 w ↦ w.next-is ∙ sym (cond-false _ _ _ (le-ltb c.part_of-part.result.a 0x8000 w.if-part-lt32768.false))
    ] in
    subst (λ x. Ready x.registers)
    (sym (step-code c.args.states.now (c.args.decision / 2) (bit_and c.args.decision 1) c.if-part-lt32768.next c.step_of-step.result
    (registers_of c.args.at c.args.bytes.now) (registers_of c.part_of-part.result c.args.bytes.now)
    (registers_of c.in_ok-done.done c.renormalise.new.bytes) c.requires.ready c.step_of-step.ensures
    (c.part_of-part.ensures c.args.bytes.now) c.in_ok-done.ensures.ok chosen))
    (ready-coded_one (encoder_at c.args.at c.args.bytes.now c.args.states.now)
    (record { context = c.args.decision / 2; bit = bit_and c.args.decision 1 == 1 }) c.requires.ready)
