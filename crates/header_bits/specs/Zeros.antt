-- Zeros in front of a one.
use Rattle.std.specs.Prelude.{ℕ, zero, suc, true, false, Bool, List, if◌then◌else◌}
use Rattle.codec_terms.specs.Reading.{done, ◌>>=◌}
use Rattle.codec_terms.specs.PacketReading.{Bits, bit_read}
use Rattle.header_bits.specs.declared.zeros.Zeros.{Zeros}

abbrev pub zeros_found : ℕ → Bool → Zeros
zeros_found n ended = record { count = n; ended = ended }

-- at most k bits more, up to a one, behind n zeros that were read; and whether there was the one
unfoldable pub zeros_read : List ℕ → ℕ → ℕ → Bits Zeros
zeros_read bytes zero n = done (zeros_found n false)
zeros_read bytes (suc k) n = bit_read bytes >>= (λ bit. if bit then done (zeros_found n true) else zeros_read bytes k (suc n))
