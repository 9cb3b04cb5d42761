-- How many blocks packets include.
use Rattle.std.specs.Prelude.{ℕ, ◌*◌, List, sum_by}
use Rattle.codec_terms.specs.declared.packet.PacketBand.{PacketBand}
use Rattle.codec_terms.specs.declared.packet.BandShape.{BandShape}
use Rattle.codec_terms.specs.StreamReading.{included_in}

-- how many blocks a sub-band has in a packet
abbrev pub area : BandShape → ℕ
area s = s.columns * s.rows

-- how many blocks these packets include
abbrev pub included_blocks : List (List PacketBand) → ℕ
included_blocks packets = sum_by (λ bands. sum_by included_in bands) packets
