use Rattle.std.proofs.Common.{◌-◌}
use Rattle.wave_level.proofs.component.+decompose_all.Given as goal

abbrev pub decreases-decompose_all : goal.decreases-decompose_all
decreases-decompose_all l = 5 - l.level.number
