-- Several bits of the byte in hand at once.
use Rattle.std.specs.Prelude.{ℕ, ◌-◌, ◌/◌, ◌^◌, ◌%◌}
use Rattle.codec_terms.specs.PacketReading.{BitPlace}

-- the k bits of a byte above the lowest m
abbrev pub bits_at : ℕ → ℕ → ℕ → ℕ
bits_at byte k m = byte / 2 ^ m % 2 ^ k

abbrev pub behind_bits : BitPlace → ℕ → BitPlace
behind_bits p k = record p { left = p.left - k }
