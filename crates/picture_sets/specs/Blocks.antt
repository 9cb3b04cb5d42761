-- What is kept of one code-block as sets of samples.
use Rattle.std.specs.Prelude.{◌≡◌, ◌≤◌, []}
use Rattle.codec_terms.specs.BlockDecisions.{Block, plane_count}
use Rattle.block_sets.specs.Planes.{AreSetsOf}
use Rattle.picture_sets.specs.declared.block.BlockSets.{BlockSets}

-- the sets are a block's bit-planes and signs, and it has so many planes
pub record IsSplit (b : Block) (split : BlockSets) : Type 0 where
  pub sets : AreSetsOf b split.sets
  pub planes : split.planes ≡ plane_count b
  pub few : split.planes ≤ 15

-- what stands for a block that isn't there
abbrev pub no_sets : BlockSets
no_sets = record { sets = []; planes = 0 }
