use Rattle.std.proofs.Common.{rules, arith}
use Rattle.std.proofs.lemmas.List.{places, same_lists}
use Rattle.mast_world.proofs.mem_source.MemFile.copy_to.Goals as goal

pub returns : goal.returns
returns c = same_lists _ _ (search (rules, places)) (λ k d h. grind (arith, places))
