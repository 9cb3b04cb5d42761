-- The block that is coded, by its sets of samples.
use Rattle.std.specs.Prelude.{◌≡◌, ◌≤◌, ℕ, List, ℤ, length}
use Rattle.codec_terms.specs.declared.picture.BandKind.{BandKind}
use Rattle.codec_terms.specs.BlockDecisions.{Block, plane_count}
use Rattle.block_sets.specs.Planes.{HasPlanesOf}
use Rattle.block_sets.specs.Rebuilt.{block_of}
use Rattle.block_sets.specs.declared.planes.BlockPlanes.{BlockPlanes}

-- the block of these values in raster order
abbrev pub block_with : BandKind → ℕ → ℕ → List ℤ → Block
block_with kind width height values = record { kind = kind; width = width; height = height; values = values }

-- these are all bit-planes of a block, from the lowest to its highest, and its signs
pub record IsBlock (planes : BlockPlanes) : Type 0 where
  pub of : HasPlanesOf (block_of planes) planes
  pub count : length planes.planes.now ≡ plane_count (block_of planes)
  pub few : length planes.planes.now ≤ 15
