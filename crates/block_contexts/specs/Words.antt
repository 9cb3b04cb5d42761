-- What a word tells of a sample's neighbours. Bits 0 to 7: left, right, above, below, above left, above right,
-- below left, below right is significant. From bit 8 on: the first four are negative.
use Rattle.std.specs.Prelude.{ℕ, ◌+◌, ◌==◌, if◌then◌else◌, ℤ, pos, negsuc, ◌+ℤ◌}
use Rattle.std.specs.Int.{bit_at}

-- how many of the neighbours are significant: of the two beside the sample, of those above and below it, and of
-- the four at its corners
abbrev pub horizontal_of : ℕ → ℕ
horizontal_of word = bit_at word 0 + bit_at word 1

abbrev pub vertical_of : ℕ → ℕ
vertical_of word = bit_at word 2 + bit_at word 3

abbrev pub diagonal_of : ℕ → ℕ
diagonal_of word = bit_at word 4 + bit_at word 5 + bit_at word 6 + bit_at word 7

-- what a neighbour adds, by the bits of its significance and of its sign
abbrev pub contribution_of : ℕ → ℕ → ℤ
contribution_of significant negative =
    if significant == 1 then (if negative == 1 then negsuc 0 else pos 1) else pos 0

-- where the signs stand from bit s on
abbrev pub horizontal_sign_of : ℕ → ℕ → ℤ
horizontal_sign_of s word =
    contribution_of (bit_at word 0) (bit_at word s) +ℤ contribution_of (bit_at word 1) (bit_at word (s + 1))

abbrev pub vertical_sign_of : ℕ → ℕ → ℤ
vertical_sign_of s word =
    contribution_of (bit_at word 2) (bit_at word (s + 2)) +ℤ contribution_of (bit_at word 3) (bit_at word (s + 3))
