-- Bits that are counted in bytes as a header's packer takes them (ITU-T T.800, Annex B.10.1).
use Rattle.std.specs.Prelude.{ℕ, zero, suc, ◌+◌, ◌*◌, ◌^◌, ◌%◌, ◌==◌, Bool, if◌then◌else◌, List, [], ◌∷◌}
use Rattle.std.specs.Int.{from_bool}

-- so many whole bytes, and the one that is begun: how many of its bits are to come behind the next one, and what those
-- before it are worth
pub record Counted : Type 0 where
  pub bytes : ℕ
  pub behind : ℕ
  pub byte : ℕ

unfoldable pub counted_into : ℕ → ℕ → ℕ → List Bool → Counted
counted_into bytes k byte [] = record { bytes = bytes; behind = k; byte = byte }
counted_into bytes zero byte (bit ∷ bits) =
    let full = byte + from_bool bit in counted_into (suc bytes) (if full == 255 then 6 else 7) 0 bits
counted_into bytes (suc k) byte (bit ∷ bits) = counted_into bytes k (byte + from_bool bit * 2 ^ suc k) bits

abbrev pub counted : Counted → List Bool → Counted
counted c bits = counted_into c.bytes c.behind c.byte bits

abbrev pub nothing_counted : Counted
nothing_counted = record { bytes = 0; behind = 7; byte = 0 }

-- A byte that was begun is filled, and one behind FF is always begun.
abbrev pub byte_count : Counted → ℕ
byte_count c = if c.behind == 7 then c.bytes else suc c.bytes

-- how many bits the byte behind the lowest suc k bits of a number has behind its first
unfoldable pub behind_next : ℕ → ℕ → ℕ
behind_next k bits = if bits % 2 ^ suc k == 255 then 6 else 7
