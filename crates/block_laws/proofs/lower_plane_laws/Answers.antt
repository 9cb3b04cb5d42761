-- The laws of lower bit-planes.
use Rattle.block_laws.proofs.LowerPlanes.{none-above, highest-alone, further-plane, begin-higher}
use Rattle.block_laws.proofs.lower_plane_laws.Goals as goal

pub returns-clause-begin : goal.returns-clause-begin
returns-clause-begin c =
    λ b p q whole small. begin-higher b (record { planes = λ p. c.plane_decision_laws.ensures b p whole small }) p q

pub returns-clause-none : goal.returns-clause-none
returns-clause-none c = λ b p whole small. none-above b (record { planes = λ p. c.plane_decision_laws.ensures b p whole small }) p

pub returns-clause-highest : goal.returns-clause-highest
returns-clause-highest c =
    λ b p whole small. highest-alone b (record { planes = λ p. c.plane_decision_laws.ensures b p whole small }) p

pub returns-clause-further : goal.returns-clause-further
returns-clause-further c =
    λ b p whole small. further-plane b (record { planes = λ p. c.plane_decision_laws.ensures b p whole small }) p
