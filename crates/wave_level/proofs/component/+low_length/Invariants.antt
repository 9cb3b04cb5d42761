use Rattle.std.proofs.Common.{◌-◌}
use Rattle.wave_level.proofs.component.+low_length.Given as goal

abbrev pub decreases-low_length : goal.decreases-low_length
decreases-low_length l = 5 - l.level.number
