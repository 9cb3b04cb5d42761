use Rattle.std.proofs.Common.{rules}
use Rattle.dwt97.proofs.Wraps.{added}
use Rattle.dwt97.proofs.lifting.fourth.Goals as goal

pub returns : goal.returns
returns c = λ f. added _ _ _ _ _ c.ranges.own c.ranges.before c.ranges.behind (search rules) f c.part.ensures
