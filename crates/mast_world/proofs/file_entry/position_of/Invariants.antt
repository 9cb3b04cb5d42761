use Rattle.std.proofs.Common.{◌≡◌, take, None}
use Rattle.std.specs.List.{find}
use Rattle.mast_world.specs.FileEntry.{is_of}
use Rattle.mast_world.proofs.file_entry.position_of.Given as goal

abbrev pub invariant-loop-at : goal.invariant-loop-at
invariant-loop-at g l = find (is_of l.file) (take l.at l.entries) ≡ None
