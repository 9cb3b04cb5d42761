-- The description of a segment, item by item.
use Rattle.std.proofs.Common.{◌≡◌, ◌∙◌, ℕ, ◌*◌, List, [], ◌∷◌, ◌++◌, append_assoc, append-nil, refl, ap}
use Rattle.std.specs.Prelude.{codes}
use Rattle.std.specs.Fmt.{decimal}
use Rattle.std.specs.Int.{to_be_bytes, w32, w64}
use Rattle.std.specs.List.{flat_map}
use Rattle.klv_base.specs.Items.{set_item, set_value}
use Rattle.klv_base.specs.declared.local_set.SetItem.{SetItem}
use Rattle.track_terms.specs.Facts.{PlainFacts}
use Rattle.track_terms.specs.Tail.{description_items}
use Rattle.track_terms.specs.Values.{id_of, rational}
use Rattle.track_terms.specs.declared.tag.TheConstants.{BODY_ID, EDIT_UNIT_BYTES, INDEX_DURATION, INDEX_ID, INDEX_RATE, INDEX_START, INSTANCE_ID, SLICE_COUNT}

pub item : ℕ → List ℕ → SetItem
item tag value = record { tag = tag; value = value }

puts_8 : {T : Type 0} (bytes : T → List ℕ) (i1 i2 i3 i4 i5 i6 i7 i8 : T) (o o1 o2 o3 o4 o5 o6 o7 o8 : List ℕ)
    → o1 ≡ o ++ bytes i1 → o2 ≡ o1 ++ bytes i2 → o3 ≡ o2 ++ bytes i3 → o4 ≡ o3 ++ bytes i4 → o5 ≡ o4 ++ bytes i5
    → o6 ≡ o5 ++ bytes i6 → o7 ≡ o6 ++ bytes i7 → o8 ≡ o7 ++ bytes i8
    → o8 ≡ o ++ flat_map bytes (i1 ∷ i2 ∷ i3 ∷ i4 ∷ i5 ∷ i6 ∷ i7 ∷ i8 ∷ [])
puts_8 bytes i1 i2 i3 i4 i5 i6 i7 i8 o o1 o2 o3 o4 o5 o6 o7 o8 p q r s t u v w =
    rw (w, v, u, t, s, r, q, p) (simp (append_assoc, append-nil))

-- the values that are put
pub record AreValues (facts : PlainFacts) (j count : ℕ) (id rate first long unit stream body : List ℕ) : Type 0 where
  pub id_is : id ≡ id_of facts (codes "index-" ++ decimal j)
  pub rate_is : rate ≡ rational facts.fps 1
  pub first_is : first ≡ to_be_bytes w64 (5000 * j)
  pub long_is : long ≡ to_be_bytes w64 count
  pub unit_is : unit ≡ to_be_bytes w32 0
  pub stream_is : stream ≡ to_be_bytes w32 129
  pub body_is : body ≡ to_be_bytes w32 1

description-is : (facts : PlainFacts) (j count : ℕ) (id rate first long unit stream body : List ℕ)
    → AreValues facts j count id rate first long unit stream body
    → item INSTANCE_ID id ∷ item INDEX_RATE rate ∷ item INDEX_START first ∷ item INDEX_DURATION long ∷ item EDIT_UNIT_BYTES unit
    ∷ item INDEX_ID stream ∷ item BODY_ID body ∷ item SLICE_COUNT (0 ∷ []) ∷ []
    ≡ description_items facts j count
unfolding description_items item
description-is facts j count id rate first long unit stream body v =
    rw (v.id_is, v.rate_is, v.first_is, v.long_is, v.unit_is, v.stream_is, v.body_is) refl

pub description-puts : (facts : PlainFacts) (j count : ℕ) (id rate first long unit stream body o o1 o2 o3 o4 o5 o6 o7 o8 : List ℕ)
    → AreValues facts j count id rate first long unit stream body
    → o1 ≡ o ++ set_item (record { tag = INSTANCE_ID; value = id }) → o2 ≡ o1 ++ set_item (record { tag = INDEX_RATE; value = rate })
    → o3 ≡ o2 ++ set_item (record { tag = INDEX_START; value = first })
    → o4 ≡ o3 ++ set_item (record { tag = INDEX_DURATION; value = long })
    → o5 ≡ o4 ++ set_item (record { tag = EDIT_UNIT_BYTES; value = unit })
    → o6 ≡ o5 ++ set_item (record { tag = INDEX_ID; value = stream }) → o7 ≡ o6 ++ set_item (record { tag = BODY_ID; value = body })
    → o8 ≡ o7 ++ set_item (record { tag = SLICE_COUNT; value = 0 ∷ [] })
    → o8 ≡ o ++ set_value (description_items facts j count)
unfolding item
description-puts facts j count id rate first long unit stream body o o1 o2 o3 o4 o5 o6 o7 o8 v p q r s t u w x =
    puts_8 set_item (item INSTANCE_ID id) (item INDEX_RATE rate) (item INDEX_START first) (item INDEX_DURATION long)
    (item EDIT_UNIT_BYTES unit) (item INDEX_ID stream) (item BODY_ID body) (item SLICE_COUNT (0 ∷ [])) o o1 o2 o3 o4 o5 o6 o7 o8
    p q r s t u w x
    ∙ ap (λ items. o ++ set_value items) (description-is facts j count id rate first long unit stream body v)
