-- Quantised values as sixteen bits: the magnitude in bits 0 to 14, the sign in bit 15.
use Rattle.std.specs.Prelude.{ℕ, ◌%◌, ◌^◌, Bool, nat_le, if◌then◌else◌, List, map, ℤ, pos, neg_ℤ}

abbrev pub magnitude : ℕ → ℕ
magnitude word = word % 2 ^ 15

abbrev pub is_negative : ℕ → Bool
is_negative word = nat_le (2 ^ 15) word

abbrev pub signed_value : ℕ → ℤ
signed_value word = if is_negative word then neg_ℤ (pos (magnitude word)) else pos (magnitude word)

abbrev pub signed_values : List ℕ → List ℤ
signed_values words = map signed_value words
