-- The sets of the header metadata.
use Rattle.std.specs.Prelude.{ℕ, ◌==◌, List, filter, map}
use Rattle.std.specs.List.{flat_map, enumerate_from}
use Rattle.klv_base.specs.Items.{local_set}
use Rattle.klv_base.specs.declared.local_set.SetItem.{SetItem}
use Rattle.track_terms.specs.Facts.{PlainFacts}
use Rattle.track_terms.specs.Keys.{set_key}
use Rattle.track_terms.specs.Kinds.{has_set}
use Rattle.track_terms.specs.Values.{value_of}
use Rattle.track_terms.specs.declared.set.SetRow.{SetRow}
use Rattle.track_terms.specs.declared.set.TheConstants.{BYTES, ROWS}

-- the tables
unfoldable pub bytes : List ℕ
bytes = BYTES

unfoldable pub rows : List SetRow
rows = ROWS

abbrev pub item_of : PlainFacts → SetRow → SetItem
item_of facts row = record { tag = row.tag; value = value_of facts row.value }

-- the items of the set of this number: its rows, in the table's order
abbrev pub set_items : PlainFacts → ℕ → List SetItem
set_items facts k = map (item_of facts) (filter (λ row. row.set == k) rows)

-- a set by its number and the byte of its key
abbrev pub set_of : PlainFacts → ℕ × ℕ → List ℕ
set_of facts (k, byte) = local_set (set_key byte) (set_items facts k)

-- those that a file of its kind has, from set 1 on
abbrev pub sets : PlainFacts → List ℕ
sets facts = flat_map (set_of facts) (filter (λ (k, byte). has_set facts.kind k) (enumerate_from 1 bytes))
