-- The packet of a precinct among those of its component.
use Rattle.std.specs.Prelude.{◌≡◌, ◌<◌, ℕ, ◌==◌, Bool, true, false, ◌&&◌, length, slice_index_or}
use Rattle.codec_terms.specs.declared.picture.Shape.{Shape}
use Rattle.codec_terms.specs.Precincts.{Precinct, packet_order}

abbrev pub is_one : ℕ → ℕ → Precinct → Bool
is_one r number p = (p.resolution == r) && (p.number == number)

-- packet n is the first, and so the only one, of this precinct
pub record IsPacketOf (shape : Shape) (r number n : ℕ) : Type 0 where
  pub within : n < length (packet_order shape)
  pub here : (d : Precinct) → is_one r number (slice_index_or (packet_order shape) n d) ≡ true
  pub before : (k : ℕ) (d : Precinct) → k < n → is_one r number (slice_index_or (packet_order shape) k d) ≡ false
