-- Items of key, length and value (SMPTE ST 336), and local sets, whose values are items of their own.
use Rattle.std.specs.Prelude.{ℕ, List, ◌∷◌, ◌++◌, length}
use Rattle.std.specs.Int.{bytes_high_first, to_be_bytes, w16}
use Rattle.std.specs.List.{flat_map}
use Rattle.klv_base.specs.declared.local_set.SetItem.{SetItem}

-- the key, and a length in three bytes behind the byte of this form
unfoldable pub key_length : List ℕ → ℕ → List ℕ
key_length key n = key ++ 0x83 ∷ bytes_high_first 3 n

abbrev pub item : List ℕ → List ℕ → List ℕ
item key value = key_length key (length value) ++ value

-- an item of a set: its tag and the length of its value, in two bytes each, and the value
abbrev pub set_item : SetItem → List ℕ
set_item i = to_be_bytes w16 i.tag ++ to_be_bytes w16 (length i.value) ++ i.value

abbrev pub set_value : List SetItem → List ℕ
set_value items = flat_map set_item items

abbrev pub local_set : List ℕ → List SetItem → List ℕ
local_set key items = item key (set_value items)
