-- What is known of a packet's blocks before they have codewords.
use Rattle.std.specs.Prelude.{◌≡◌, ◌≤◌, Bool, true, List, [], ◌∷◌, All, length, map, replicate, ⊤}
use Rattle.std.specs.List.{list_any}
use Rattle.codec_terms.specs.declared.packet.PacketBlock.{PacketBlock}
use Rattle.codec_terms.specs.declared.packet.PacketBand.{PacketBand}
use Rattle.packet_size.specs.declared.sizes.BlockSize.{BlockSize}
use Rattle.packet_size.specs.declared.sizes.BandSizes.{BandSizes}

-- the block has this size
pub record IsSizeOf (size : BlockSize) (block : PacketBlock) : Type 0 where
  pub included : size.included ≡ block.included
  pub zero_planes : block.included ≡ true → size.zero_planes ≡ block.zero_planes
  pub passes : block.included ≡ true → size.passes ≡ block.passes
  pub len : block.included ≡ true → size.len ≡ length block.codeword

abbrev pub AreBlockSizes : List BlockSize → List PacketBlock → Type 0
AreBlockSizes [] [] = ⊤
AreBlockSizes [] (block ∷ blocks) = ⊥
AreBlockSizes (size ∷ sizes) [] = ⊥
AreBlockSizes (size ∷ sizes) (block ∷ blocks) = IsSizeOf size block × AreBlockSizes sizes blocks

-- the sub-band's blocks have these sizes
pub record HasSizes (sizes : BandSizes) (band : PacketBand) : Type 0 where
  pub columns : sizes.columns ≡ band.columns
  pub rows : sizes.rows ≡ band.rows
  pub blocks : AreBlockSizes sizes.blocks.now band.blocks

abbrev pub AreSizesOf : List BandSizes → List PacketBand → Type 0
AreSizesOf [] [] = ⊤
AreSizesOf [] (band ∷ bands) = ⊥
AreSizesOf (size ∷ sizes) [] = ⊥
AreSizesOf (size ∷ sizes) (band ∷ bands) = HasSizes size band × AreSizesOf sizes bands

-- table B.4 has a codeword for the passes of a block that is included
pub record HasPassCode (size : BlockSize) : Type 0 where
  pub some : size.included ≡ true → 1 ≤ size.passes
  pub few : size.included ≡ true → size.passes ≤ 164

abbrev pub HasPassCodes : BandSizes → Type 0
HasPassCodes band = All HasPassCode band.blocks.now

-- a block of this size, with zeros for a codeword
abbrev pub block_of : BlockSize → PacketBlock
block_of size =
    record { included = size.included; zero_planes = size.zero_planes; passes = size.passes; codeword = replicate size.len 0 }

abbrev pub band_of : BandSizes → PacketBand
band_of band = record { columns = band.columns; rows = band.rows; blocks = map block_of band.blocks.now }

-- whether a block is included
abbrev pub includes_some : BandSizes → Bool
includes_some band = list_any (λ size. size.included) band.blocks.now
