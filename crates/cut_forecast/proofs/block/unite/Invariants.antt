use Rattle.std.proofs.Common.{◌≤◌, ◌*◌}
use Rattle.cut_forecast.proofs.block.unite.Given as goal

-- a word has at most 64 samples
abbrev pub invariant-loop-w : goal.invariant-loop-w
invariant-loop-w l = l.count ≤ 64 * l.w
