-- How long the packets of a component's resolutions are.
use Rattle.std.specs.Prelude.{◌≡◌, ◌<◌, ◌⊎◌, ℕ, suc, ◌+◌, ◌*◌, ◌/◌, ◌%◌, List, ℤ, length, map, slice_index, sum_by}
use Rattle.std.specs.List.{range_with_len}
use Rattle.codec_terms.specs.declared.picture.Shape.{Shape}
use Rattle.codec_terms.specs.Bands.{resolution_bands}
use Rattle.codec_terms.specs.PacketHeader.{packet}
use Rattle.codec_terms.specs.Codestream.{packet_band}
use Rattle.band_laws.specs.Places.{precinct_count}

-- the packet of a component's precinct, by its resolution and its number there
abbrev pub packet_of : Shape → List ℤ → ℕ → ℕ → ℕ → ℕ → List ℕ
packet_of shape q cut component r number =
    packet (map (packet_band shape q cut number) (resolution_bands component r))

-- all packets of a component's resolution together
unfoldable pub resolution_length : Shape → List ℤ → ℕ → ℕ → ℕ → ℕ
resolution_length shape q cut component r =
    sum_by (λ number. length (packet_of shape q cut component r number)) (range_with_len 0 (precinct_count shape r))

-- these are the lengths at the 18 places, six for each component
pub record HasLengths (shape : Shape) (q : List ℤ) (cut : ℕ) (packets : List ℕ) : Type 0 where
  pub count : length packets ≡ 18
  pub each : (place : ℕ) → place < 18 → slice_index packets place ≡ resolution_length shape q cut (place / 6) (place % 6)

-- a tile-part's length by them
abbrev pub part_of : List ℕ → ℕ → ℕ
part_of packets component =
    14 + slice_index packets (6 * component) + slice_index packets (6 * component + 1)
    + slice_index packets (6 * component + 2) + slice_index packets (6 * component + 3)
    + slice_index packets (6 * component + 4) + slice_index packets (6 * component + 5)

-- two cuts next to one another, of which this is the lower one
abbrev pub AreNext : ℕ → ℕ → ℕ → Type 0
AreNext least a b = ((a ≡ suc least) × (b ≡ least)) ⊎ ((a ≡ least) × (b ≡ suc least))
