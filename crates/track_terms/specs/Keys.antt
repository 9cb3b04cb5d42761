-- Keys and labels: sixteen bytes, which the tables have in groups of four.
use Rattle.std.specs.Prelude.{ℕ, List, slice_set}
use Rattle.std.specs.Int.{to_be_bytes, w32}
use Rattle.std.specs.List.{flat_map}
use Rattle.track_terms.specs.declared.key.TheConstants.{SET}

-- each group with its highest byte first
unfoldable pub key_of : List ℕ → List ℕ
key_of groups = flat_map (to_be_bytes w32) groups

-- the key of a set: the last byte but one says which
abbrev pub set_key : ℕ → List ℕ
set_key byte = slice_set (key_of SET) 14 byte
