-- The least that packets, tile-parts and codestreams can be long at a cut and at all lower ones. Floors are this project's
-- own: at a lower cut a codeword can be shorter, but by one byte at most.
--     codeword_floor block                              of a code-block's codeword
--     packet_floor bands                                of a packet
--     precinct_floor shape q cut component precinct     of a precinct's packet
--     resolution_floor shape q cut component r          of all packets of a component's resolution together
--     part_floor shape q cut component                  of a tile-part
--     stream_floor shape q cut                          of the whole codestream
use Rattle.std.specs.Prelude.{◌<◌, ◌⊎◌, ℕ, ◌+◌, ◌-◌, ◌*◌, Bool, ◌||◌, if◌then◌else◌, nat_lt, List, length, map, sum_by, ℤ}
use Rattle.std.specs.List.{range_with_len}
use Rattle.mast_base.specs.declared.limits.Limits.{Limits}
use Rattle.codec_terms.specs.declared.picture.Shape.{Shape}
use Rattle.codec_terms.specs.declared.packet.PacketBlock.{PacketBlock}
use Rattle.codec_terms.specs.declared.packet.PacketBand.{PacketBand}
use Rattle.codec_terms.specs.Bands.{resolution_bands}
use Rattle.codec_terms.specs.Precincts.{Precinct, precinct_columns, precinct_rows, packet_order}
use Rattle.codec_terms.specs.Codestream.{packet_band}

abbrev pub codeword_floor : PacketBlock → ℕ
codeword_floor block = if block.included then length block.codeword - 1 else 0

abbrev pub band_floor : PacketBand → ℕ
band_floor band = sum_by codeword_floor band.blocks

-- a packet's header has at least one byte
abbrev pub packet_floor : List PacketBand → ℕ
packet_floor bands = 1 + sum_by band_floor bands

abbrev pub precinct_floor : Shape → List ℤ → ℕ → ℕ → Precinct → ℕ
precinct_floor shape q cut component precinct =
    packet_floor (map (packet_band shape q cut precinct.number) (resolution_bands component precinct.resolution))

-- over the numbers of the resolution's precincts
unfoldable pub resolution_floor : Shape → List ℤ → ℕ → ℕ → ℕ → ℕ
resolution_floor shape q cut component r =
    sum_by (λ number. packet_floor (map (packet_band shape q cut number) (resolution_bands component r)))
    (range_with_len 0 (precinct_columns shape r * precinct_rows shape r))

unfoldable pub part_floor : Shape → List ℤ → ℕ → ℕ → ℕ
part_floor shape q cut component = 14 + sum_by (precinct_floor shape q cut component) (packet_order shape)

abbrev pub stream_floor : Shape → List ℤ → ℕ → ℕ
stream_floor shape q cut =
    145 + (part_floor shape q cut 0 + (part_floor shape q cut 1 + part_floor shape q cut 2))

-- ---- where a search may stop

-- the codestream or one of its parts is above its limit, at this cut and at all lower ones
abbrev pub IsOver : Limits → Shape → List ℤ → ℕ → Type 0
IsOver limits shape q cut =
    (limits.frame < stream_floor shape q cut)
    ⊎ ((component : ℕ) × (component < 3) × (limits.component < part_floor shape q cut component))

-- the same as a test
abbrev pub is_over : Limits → Shape → List ℤ → ℕ → Bool
is_over limits shape q cut =
    nat_lt limits.frame (stream_floor shape q cut)
    || (nat_lt limits.component (part_floor shape q cut 0)
    || (nat_lt limits.component (part_floor shape q cut 1)
    || nat_lt limits.component (part_floor shape q cut 2)))
