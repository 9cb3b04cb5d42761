-- The key and the length of an item, read at a place of some bytes.
use Rattle.std.specs.Prelude.{ℕ, ◌+◌, ◌==◌, not, nat_lt, if◌then◌else◌, List, ◌∷◌, length, slice_index, slice_range, Result, Ok, Err}
use Rattle.std.specs.Int.{from_be_bytes, w32}
use Rattle.klv_base.specs.declared.reader.KlvRefusal.{KlvRefusal}
use Rattle.klv_base.specs.declared.reader.KlvRefusal.TheVariants.{Truncated, LengthForm}

-- the number in three bytes, the highest first
abbrev pub three_byte_number : List ℕ → ℕ
three_byte_number bytes = from_be_bytes w32 (0 ∷ bytes)

-- The key, the length, and the place of the value, which itself needn't be there. The byte that tells the length's form
-- stands behind the 16 bytes of the key, and is judged before the three bytes of the length are looked for.
unfoldable pub read_at : List ℕ → ℕ → Result (List ℕ × ℕ × ℕ) KlvRefusal
read_at bytes at =
    if nat_lt (length bytes) (at + 17) then Err (Truncated (length bytes))
    else if not (slice_index bytes (at + 16) == 0x83) then Err (LengthForm (at + 16))
    else if nat_lt (length bytes) (at + 20) then Err (Truncated (length bytes))
    else Ok (slice_range bytes at (at + 16), three_byte_number (slice_range bytes (at + 17) (at + 20)), at + 20)
