-- The law of a code-block's bit-planes.
use Rattle.codec_laws.proofs.PlaneLaws.{decisions-by_planes}
use Rattle.codec_laws.proofs.PlanesFollow.{planes-follow}
use Rattle.codec_laws.proofs.blocks.plane_decision_laws.Goals as goal

pub returns : goal.returns
returns c = λ b p whole small. decisions-by_planes b (planes-follow b whole small) p
