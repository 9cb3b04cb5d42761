-- Blocks' sizes one by one.
use Rattle.std.specs.Prelude.{ℕ, ◌<◌, List, slice_index_or, false}
use Rattle.codec_terms.specs.declared.packet.PacketBlock.{PacketBlock}
use Rattle.codec_terms.specs.Codestream.{not_included}
use Rattle.packet_size.specs.declared.sizes.BlockSize.{BlockSize}
use Rattle.packet_size.specs.Sizes.{IsSizeOf}

abbrev pub absent : BlockSize
absent = record { included = false; zero_planes = 0; passes = 0; len = 0 }

-- the first `count` blocks have these sizes
abbrev pub AreSizesUpTo : ℕ → List BlockSize → List PacketBlock → Type 0
AreSizesUpTo count sizes blocks =
    (k : ℕ) → k < count → IsSizeOf (slice_index_or sizes k absent) (slice_index_or blocks k not_included)
