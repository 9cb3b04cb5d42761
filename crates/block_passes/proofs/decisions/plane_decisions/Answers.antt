use Rattle.std.proofs.Common.{refl, arith}
use Rattle.block_passes.proofs.Starts.{before-next}
use Rattle.block_passes.proofs.decisions.plane_decisions.Goals as goal

pub returns-clause-decisions : goal.returns-clause-decisions
returns-clause-decisions c = λ b h before. (c.code.ensures b h refl before).list

pub returns-clause-contexts : goal.returns-clause-contexts
returns-clause-contexts c = λ b h before. (c.code.ensures b h refl before).contexts

pub returns-clause-next : goal.returns-clause-next
returns-clause-next c = λ b p h before e.
    before-next b p c.args.index e h.whole (omega (arith, h.width)) (omega (arith, h.height)) c.args.state.now c.code.new.state _ refl refl refl
    before (c.code.ensures b h refl before) c.difference-state.ensures
