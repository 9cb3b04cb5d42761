-- Numbers as bits and bytes, as codestreams have them: the highest first.
use Rattle.std.specs.Prelude.{ℕ, zero, suc, ◌-◌, ◌/◌, ◌^◌, ◌%◌, ◌==◌, Bool, List, [], ◌∷◌}
use Rattle.std.specs.Int.{leading_zeros, to_be_bytes, w16, w32, w64}

-- the lowest k bits of n, the highest of them first
unfoldable pub low_bits : ℕ → ℕ → List Bool
low_bits zero n = []
low_bits (suc k) n = (n / 2 ^ k % 2 == 1) ∷ low_bits k n

-- the least number of bits that holds n, for n below 2^64; of a greater n it says nothing
abbrev pub bit_length : ℕ → ℕ
bit_length n = 64 - leading_zeros w64 n

-- the logarithm to base 2 of n, rounded down, for n from 1 on and below 2^64
abbrev pub log2 : ℕ → ℕ
log2 n = bit_length n - 1

-- for n below 2^16, and below 2^32
abbrev pub two_bytes : ℕ → List ℕ
two_bytes n = to_be_bytes w16 n

abbrev pub four_bytes : ℕ → List ℕ
four_bytes n = to_be_bytes w32 n
