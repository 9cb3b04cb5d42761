-- The tail of a track file: all that stands behind its items.
use Rattle.std.specs.Prelude.{ℕ, ◌+◌, ◌-◌, ◌*◌, ◌/◌, codes, List, [], ◌∷◌, ◌++◌, drop, length, map, take}
use Rattle.std.specs.Fmt.{decimal}
use Rattle.std.specs.Int.{to_be_bytes, w32, w64}
use Rattle.std.specs.List.{flat_map, range_with_len}
use Rattle.klv_base.specs.Items.{item, local_set}
use Rattle.klv_base.specs.declared.local_set.SetItem.{SetItem}
use Rattle.track_terms.specs.Facts.{PlainFacts}
use Rattle.track_terms.specs.Keys.{key_of}
use Rattle.track_terms.specs.Partitions.{pack, footer_partition}
use Rattle.track_terms.specs.Values.{id_of, batch, rational}
use Rattle.track_terms.specs.declared.key.TheConstants.{INDEX, RANDOM_INDEX}
use Rattle.track_terms.specs.declared.tag.TheConstants.{BODY_ID, EDIT_UNIT_BYTES, INDEX_DURATION, INDEX_ENTRIES, INDEX_ID, INDEX_RATE, INDEX_START, INSTANCE_ID, SLICE_COUNT}

-- of an item at this place: shown where it stands and needing no other, and its place in the essence, which begins at 16,508
abbrev pub index_entry : ℕ → List ℕ
index_entry place = 0 ∷ 0 ∷ 0x80 ∷ to_be_bytes w64 (place - 16508)

-- what segment j says of so many frames, but for their places
unfoldable pub description_items : PlainFacts → ℕ → ℕ → List SetItem
description_items facts j count =
    record { tag = INSTANCE_ID; value = id_of facts (codes "index-" ++ decimal j) }
    ∷ record { tag = INDEX_RATE; value = rational facts.fps 1 }
    ∷ record { tag = INDEX_START; value = to_be_bytes w64 (5000 * j) }
    ∷ record { tag = INDEX_DURATION; value = to_be_bytes w64 count }
    ∷ record { tag = EDIT_UNIT_BYTES; value = to_be_bytes w32 0 }
    ∷ record { tag = INDEX_ID; value = to_be_bytes w32 129 }
    ∷ record { tag = BODY_ID; value = to_be_bytes w32 1 }
    ∷ record { tag = SLICE_COUNT; value = 0 ∷ [] }
    ∷ []

abbrev pub entries_item : List ℕ → SetItem
entries_item places = record { tag = INDEX_ENTRIES; value = batch 11 (map index_entry places) }

-- the items of segment j, whose frames' items are at these places
abbrev pub segment_items : PlainFacts → ℕ → List ℕ → List SetItem
segment_items facts j places = description_items facts j (length places) ++ entries_item places ∷ []

-- segment j has the 5,000 frames from frame 5,000 j on, or those that are left
unfoldable pub segment_places : List ℕ → ℕ → List ℕ
segment_places places j = take 5000 (drop (5000 * j) places)

abbrev pub segment : PlainFacts → List ℕ → ℕ → List ℕ
segment facts places j = local_set (key_of INDEX) (segment_items facts j (segment_places places j))

unfoldable pub segments : PlainFacts → List ℕ → List ℕ
segments facts places = flat_map (segment facts places) (range_with_len 0 ((length places + 4999) / 5000))

-- the number of a partition's stream of essence and the place of the partition
abbrev pub partition_entry : ℕ → ℕ → List ℕ
partition_entry body_id place = to_be_bytes w32 body_id ++ to_be_bytes w64 place

-- the random index pack, which has 60 bytes and ends by saying so
abbrev pub random_index : ℕ → List ℕ
random_index footer =
    item (key_of RANDOM_INDEX)
    (partition_entry 0 0 ++ partition_entry 1 16384 ++ partition_entry 0 footer ++ to_be_bytes w32 60)

-- the items are at these places, and the footer begins at this one
abbrev pub tail : PlainFacts → List ℕ → ℕ → List ℕ
tail facts places footer =
    pack facts.kind (footer_partition footer (length (segments facts places)))
    ++ segments facts places
    ++ random_index footer
