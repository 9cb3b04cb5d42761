-- Packets of which only the number of included blocks and the end count.
use Rattle.std.specs.Prelude.{ℕ, ◌+◌, ◌≤◌, List, [], ◌∷◌, ◌++◌, Result, Ok, Err, nat_lt, if◌then◌else◌, sum_by}
use Rattle.std.specs.List.{flat_map}
use Rattle.codec_terms.specs.declared.packet.BandShape.{BandShape}
use Rattle.codec_terms.specs.declared.packet.PacketRead.{PacketRead}
use Rattle.codec_terms.specs.declared.packet.HeadRefusal.{HeadRefusal}
use Rattle.codec_terms.specs.declared.packet.HeadRefusal.TheVariants.{LengthPast}
use Rattle.codec_terms.specs.Reading.{on_ok}
use Rattle.codec_terms.specs.PacketReading.{BitPlace, BlockHead}
use Rattle.codec_terms.specs.StreamReading.{included_in}
use Rattle.packet_scan.specs.declared.scan.Scanned.{Scanned}

-- a sub-band has at most 4 x 4 blocks in a packet
pub record IsSmallShape (s : BandShape) : Type 0 where
  pub few_columns : s.columns ≤ 4
  pub few_rows : s.rows ≤ 4

-- what is left of a packet
abbrev pub scanned : Result PacketRead HeadRefusal → Result Scanned HeadRefusal
scanned r = on_ok r (λ (packet : PacketRead). Ok (record { blocks = sum_by included_in packet.bands; next = packet.next }))

-- the lengths of the codewords of those blocks that are included
abbrev pub sizes_in : List BlockHead → List ℕ
sizes_in [] = []
sizes_in (head ∷ heads) = if head.included then head.size ∷ sizes_in heads else sizes_in heads

-- the lengths behind those that are known
abbrev pub with_sizes : List ℕ → Result (List BlockHead × BitPlace) HeadRefusal → Result (List ℕ × BitPlace) HeadRefusal
with_sizes sizes r = on_ok r (λ (r : List BlockHead × BitPlace). Ok (sizes ++ sizes_in r.0, r.1))

abbrev pub with_band_sizes : List ℕ → Result (List (List BlockHead) × BitPlace) HeadRefusal → Result (List ℕ × BitPlace) HeadRefusal
with_band_sizes sizes r = on_ok r (λ (r : List (List BlockHead) × BitPlace). Ok (sizes ++ flat_map sizes_in r.0, r.1))

-- the place behind codewords of these lengths, or the first that goes past the end
unfoldable pub ends_read : ℕ → List ℕ → ℕ → Result ℕ HeadRefusal
ends_read size [] at = Ok at
ends_read size (n ∷ sizes) at = if nat_lt size (at + n) then Err (LengthPast at n) else ends_read size sizes (at + n)
