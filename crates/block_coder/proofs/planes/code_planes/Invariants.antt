use Rattle.std.proofs.Common.{◌-◌, ◌<◌, suc}
use Rattle.block_passes.specs.Told.{IsBefore}
use Rattle.block_sets.specs.Rebuilt.{block_of}
use Rattle.block_coder.specs.Codes.{HasCoded}
use Rattle.block_coder.proofs.planes.code_planes.Given as goal

abbrev pub invariant-loop-done : goal.invariant-loop-done
invariant-loop-done l = record {
  so_far : HasCoded (block_of l.block) l.planes l.done l.endings.items l.coder;
  before : l.done < l.planes → IsBefore (block_of l.block) (l.planes - suc l.done) l.state;
}
