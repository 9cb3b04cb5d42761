use Rattle.mq_coder.proofs.coder.Coder.code.Goals as goal

pub invariant_of-self-2 : goal.invariant_of-self-2
invariant_of-self-2 c = record { ready = c.in_ok-done.ensures.ready; states = c.code_one.ensures.states }
