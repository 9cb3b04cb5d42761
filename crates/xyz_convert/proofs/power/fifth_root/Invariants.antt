use Rattle.xyz_convert.proofs.Roots.{IsSearched}
use Rattle.xyz_convert.proofs.power.fifth_root.Given as goal

abbrev pub invariant-loop-bit : goal.invariant-loop-bit
invariant-loop-bit l = IsSearched l.n l.bit l.root
