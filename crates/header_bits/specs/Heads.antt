-- The head of a block that is included, behind the bits of its zero planes.
use Rattle.std.specs.Prelude.{ℕ, true, List, Option, ◌-◌}
use Rattle.codec_terms.specs.Reading.{done, ◌>>=◌}
use Rattle.codec_terms.specs.PacketReading.{Bits, BlockHead, planes_known, pass_count_read, passes_checked, size_read}
use Rattle.header_bits.specs.declared.included.Included.{Included}

-- as the definition has it, of a leaf of which this is known
abbrev pub head_read : List ℕ → ℕ → Option ℕ → Bits BlockHead
head_read bytes mb known = do
  zero_planes ← planes_known bytes known
  passes ← pass_count_read bytes
  checked ← passes_checked bytes (mb - zero_planes) passes
  size ← size_read bytes checked
  done (record { included = true; zero_planes = zero_planes; passes = checked; size = size })

abbrev pub head_of : Included → BlockHead
head_of h = record { included = true; zero_planes = h.zero_planes; passes = h.passes; size = h.size }
