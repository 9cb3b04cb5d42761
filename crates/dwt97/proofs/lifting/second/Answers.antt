use Rattle.std.proofs.Common.{rules}
use Rattle.dwt97.proofs.Wraps.{added_less_one}
use Rattle.dwt97.proofs.lifting.second.Goals as goal

pub returns : goal.returns
returns c = λ f. added_less_one _ _ _ _ c.ranges.own c.ranges.before c.ranges.behind (search rules) f c.part.ensures
