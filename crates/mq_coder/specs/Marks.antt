-- The last byte of an encoder, in an ending.
use Rattle.std.specs.Prelude.{ℕ, ◌+◌, ◌*◌, List, [], ◌∷◌}

-- the last byte that came out in bits 16 to 23, with a bit above it, or 0 where there is none
abbrev pub mark_of : List ℕ → ℕ
mark_of [] = 0
mark_of (b ∷ bs) = 0x1000000 + b * 0x10000
