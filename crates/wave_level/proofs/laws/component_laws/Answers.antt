use Rattle.wave_level.proofs.Joined.{quantised_planes-joined, coefficients-joined}
use Rattle.wave_level.proofs.Order.{first_and_behind}
use Rattle.wave_level.proofs.laws.component_laws.Goals as goal

pub returns-clause-planes : goal.returns-clause-planes
returns-clause-planes c = quantised_planes-joined

pub returns-clause-pictures : goal.returns-clause-pictures
returns-clause-pictures c = coefficients-joined

pub returns-clause-first : goal.returns-clause-first
returns-clause-first c = first_and_behind
