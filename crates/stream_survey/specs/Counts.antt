-- Packets of which only the number of included blocks counts.
use Rattle.std.specs.Prelude.{ℕ, ◌*◌, List, Result, Ok, sum_by}
use Rattle.codec_terms.specs.declared.packet.PacketBand.{PacketBand}
use Rattle.codec_terms.specs.declared.packet.BandShape.{BandShape}
use Rattle.codec_terms.specs.declared.reading.ReadRefusal.{ReadRefusal}
use Rattle.codec_terms.specs.Reading.{on_ok}
use Rattle.codec_terms.specs.StreamReading.{included_in, included_count}
use Rattle.stream_survey.specs.declared.counts.Counted.{Counted}

-- how many blocks a sub-band has in a packet
abbrev pub area : BandShape → ℕ
area s = s.columns * s.rows

-- how many blocks these packets include
abbrev pub included_blocks : List (List PacketBand) → ℕ
included_blocks packets = sum_by (λ bands. sum_by included_in bands) packets

-- those of one component, and those of several
abbrev pub counted : Result (List (List PacketBand) × ℕ) ReadRefusal → Result Counted ReadRefusal
counted r = on_ok r (λ packets. Ok (record { blocks = included_blocks packets.0; next = packets.1 }))

abbrev pub counted_parts : Result (List (List (List PacketBand)) × ℕ) ReadRefusal → Result Counted ReadRefusal
counted_parts r = on_ok r (λ parts. Ok (record { blocks = included_count parts.0; next = parts.1 }))
