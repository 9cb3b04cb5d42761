-- The laws of contexts.
use Rattle.codec_laws.proofs.Contexts.{zero_context-below, sign_context-within, refine_context-within, decisions-in}
use Rattle.codec_laws.proofs.blocks.context_laws.Goals as goal

pub returns-clause-zero : goal.returns-clause-zero
returns-clause-zero c = zero_context-below

pub returns-clause-sign : goal.returns-clause-sign
returns-clause-sign c = sign_context-within

pub returns-clause-refinement : goal.returns-clause-refinement
returns-clause-refinement c = refine_context-within

pub returns-clause-decisions : goal.returns-clause-decisions
returns-clause-decisions c = decisions-in
