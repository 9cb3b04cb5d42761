use Rattle.std.proofs.Common.{◌+◌, ◌-◌, ◌*◌}
use Rattle.mq_coder.proofs.source.+read_on.Given as goal

abbrev pub decreases-read_on : goal.decreases-read_on
decreases-read_on l = 2 * l.shift + (1 - l.at.ct)
