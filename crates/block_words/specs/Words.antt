-- The words of a block's samples, in rows of 34 with a border of one sample on all sides. Bits 0 to 11 tell of the
-- neighbours, bit 12 of the sample itself.
use Rattle.std.specs.Prelude.{ℕ, suc, ◌+◌, ◌-◌, ◌*◌, ◌≡◌, Bool, ◌&&◌, List, [], ◌∷◌, slice_index, slice_set, bit_and, bit_or}
use Rattle.std.specs.Int.{bit_at, from_bool}
use Rattle.codec_terms.specs.Contexts.{is_in}

abbrev pub place_of : ℕ → ℕ → ℕ
place_of x y = (y + 1) * 34 + x + 1

-- what the word of sample (x, y) tells of the set of significant samples, and of the negative ones
pub record IsWord (width : ℕ) (set negative : List Bool) (x y word : ℕ) : Type 0 where
  pub left : bit_at word 0 ≡ from_bool (is_in width set x (suc y))
  pub right : bit_at word 1 ≡ from_bool (is_in width set (suc (suc x)) (suc y))
  pub above : bit_at word 2 ≡ from_bool (is_in width set (suc x) y)
  pub below : bit_at word 3 ≡ from_bool (is_in width set (suc x) (suc (suc y)))
  pub above_left : bit_at word 4 ≡ from_bool (is_in width set x y)
  pub above_right : bit_at word 5 ≡ from_bool (is_in width set (suc (suc x)) y)
  pub below_left : bit_at word 6 ≡ from_bool (is_in width set x (suc (suc y)))
  pub below_right : bit_at word 7 ≡ from_bool (is_in width set (suc (suc x)) (suc (suc y)))
  pub left_sign : bit_at word 8 ≡ from_bool (is_in width set x (suc y) && is_in width negative x (suc y))
  pub right_sign : bit_at word 9
      ≡ from_bool (is_in width set (suc (suc x)) (suc y) && is_in width negative (suc (suc x)) (suc y))
  pub above_sign : bit_at word 10 ≡ from_bool (is_in width set (suc x) y && is_in width negative (suc x) y)
  pub below_sign : bit_at word 11
      ≡ from_bool (is_in width set (suc x) (suc (suc y)) && is_in width negative (suc x) (suc (suc y)))
  pub itself : bit_at word 12 ≡ from_bool (is_in width set (suc x) (suc y))

-- bits that are set in the word at a place
abbrev pub put : List ℕ → ℕ → ℕ → List ℕ
put words at bits = slice_set words at (bit_or (slice_index words at) bits)

abbrev pub marked : List ℕ → ℕ × ℕ → List ℕ
marked words mark = put words mark.0 mark.1

-- what a sample that becomes significant sets in its own word and in those of its neighbours, where signs is 3840
-- if it is negative and 0 otherwise
abbrev pub marks : ℕ → ℕ → List (ℕ × ℕ)
marks at signs =
    (at, 4096) ∷ (at + 1, bit_or 1 (bit_and signs 256)) ∷ (at - 1, bit_or 2 (bit_and signs 512))
    ∷ (at + 34, bit_or 4 (bit_and signs 1024)) ∷ (at - 34, bit_or 8 (bit_and signs 2048)) ∷ (at + 35, 16)
    ∷ (at + 33, 32) ∷ (at - 33, 64) ∷ (at - 35, 128) ∷ []
