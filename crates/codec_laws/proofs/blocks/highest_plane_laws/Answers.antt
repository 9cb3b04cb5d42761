-- The laws of a block's highest bit-plane.
use Rattle.codec_laws.proofs.HighestPlane.{propagation-highest, refinement-highest, decisions-highest}
use Rattle.codec_laws.proofs.blocks.highest_plane_laws.Goals as goal

pub returns-clause-propagation : goal.returns-clause-propagation
returns-clause-propagation c = propagation-highest

pub returns-clause-refinement : goal.returns-clause-refinement
returns-clause-refinement c = refinement-highest

pub returns-clause-decisions : goal.returns-clause-decisions
returns-clause-decisions c = decisions-highest
