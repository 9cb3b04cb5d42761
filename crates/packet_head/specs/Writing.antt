-- What a packet's writer is handed, block by block.
use Rattle.std.specs.Prelude.{◌≡◌, ℕ, suc, ◌*◌, ◌≤◌, Bool, true, if◌then◌else◌, List, [], ◌++◌, All, length}
use Rattle.codec_terms.specs.declared.packet.PacketBlock.{PacketBlock}
use Rattle.codec_terms.specs.declared.packet.PacketBand.{PacketBand}
use Rattle.codec_terms.specs.TagTree.{Tree, leaf_bits, leaf_told}
use Rattle.codec_terms.specs.PacketHeader.{included_bits}

-- table B.4 has a codeword for the passes of a block that is included
pub record HasPassCode (block : PacketBlock) : Type 0 where
  pub some : block.included ≡ true → 1 ≤ block.passes
  pub few : block.included ≡ true → block.passes ≤ 164

-- a band that has as many blocks as columns times rows
pub record IsBand (band : PacketBand) : Type 0 where
  pub count : length band.blocks ≡ band.rows * band.columns
  pub passes : All HasPassCode band.blocks

-- one block's bits, and the trees behind them
abbrev pub block_bits : Tree → Tree → ℕ → PacketBlock → List Bool
block_bits layers planes at block =
    leaf_bits 1 layers at ++ (if block.included then included_bits planes at block else [])

abbrev pub planes_then : Tree → ℕ → PacketBlock → Tree
planes_then planes at block = if block.included then leaf_told (suc block.zero_planes) planes at else planes
