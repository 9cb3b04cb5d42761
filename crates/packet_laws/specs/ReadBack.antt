-- Packets that a reader gives back as they were written, and what it gives.
use Rattle.std.specs.Prelude.{◌≡◌, ◌<◌, ◌≤◌, ℕ, ◌+◌, ◌*◌, ◌-◌, ◌^◌, true, if◌then◌else◌, List, All, length, slice_index, [], ◌∷◌, ⊤, map}
use Rattle.codec_terms.specs.declared.packet.PacketBlock.{PacketBlock}
use Rattle.codec_terms.specs.declared.packet.PacketBand.{PacketBand}
use Rattle.codec_terms.specs.declared.packet.BandShape.{BandShape}
use Rattle.codec_terms.specs.declared.packet.PacketRead.{PacketRead}
use Rattle.codec_terms.specs.Passes.{pass_count}
use Rattle.codec_terms.specs.TagTree.{Tree, new_node}
use Rattle.codec_terms.specs.PacketReading.{BlockHead, no_head, no_block}
use Rattle.codec_laws.specs.TreeReading.{HasLeaf, leaf_of}

-- what a block must keep to where it is included, in a sub-band of mb bit-planes
pub record IsReadable (mb : ℕ) (block : PacketBlock) : Type 0 where
  pub planes : block.included ≡ true → block.zero_planes < mb
  pub some : block.included ≡ true → 1 ≤ block.passes
  pub few : block.included ≡ true → block.passes ≤ pass_count (mb - block.zero_planes)
  pub short : block.included ≡ true → length block.codeword < 2 ^ 32

-- a sub-band as a reader of this shape expects it, with as many blocks as columns times rows
pub record IsInOrder (shape : BandShape) (band : PacketBand) : Type 0 where
  pub columns : band.columns ≡ shape.columns
  pub rows : band.rows ≡ shape.rows
  pub count : length band.blocks ≡ band.rows * band.columns
  pub planes : shape.mb ≤ 31
  pub blocks : All (IsReadable shape.mb) band.blocks

-- from number `at` on, a tree's leaves have these values, and nothing was told of them
pub record HasNewLeaves (tree : Tree) (at : ℕ) (values : List ℕ) : Type 0 where
  pub there : (i : ℕ) → i < length values → HasLeaf tree (at + i)
  pub new : (i : ℕ) → i < length values → leaf_of tree (at + i) ≡ new_node (slice_index values i)

-- what a header says of a block
abbrev pub included_head : PacketBlock → BlockHead
included_head block =
    record { included = true; zero_planes = block.zero_planes; passes = block.passes; size = length block.codeword }

abbrev pub head_of : PacketBlock → BlockHead
head_of block = if block.included then included_head block else no_head

abbrev pub band_heads : PacketBand → List BlockHead
band_heads band = map head_of band.blocks

-- a block as a reader gives it
abbrev pub read_of : PacketBlock → PacketBlock
read_of block = if block.included then block else no_block

abbrev pub band_read_of : PacketBand → PacketBand
band_read_of band = record { columns = band.columns; rows = band.rows; blocks = map read_of band.blocks }

abbrev pub bands_read_of : List PacketBand → List PacketBand
bands_read_of bands = map band_read_of bands

-- a packet of these sub-bands as a reader gives it, with the place behind it
abbrev pub packet_read_of : List PacketBand → ℕ → PacketRead
packet_read_of bands next = record { bands = bands_read_of bands; next = next }

-- as many sub-bands as shapes, each in order
abbrev pub AreInOrder : List BandShape → List PacketBand → Type 0
AreInOrder [] [] = ⊤
AreInOrder [] (band ∷ bands) = ⊥
AreInOrder (shape ∷ shapes) [] = ⊥
AreInOrder (shape ∷ shapes) (band ∷ bands) = IsInOrder shape band × AreInOrder shapes bands
