-- How long the items of a set are.
use Rattle.std.proofs.Common.{◌≡◌, ℕ, ◌+◌, ◌<◌, sym, ap, ◌∙◌, arith, List, ◌∷◌, length, drop, get_or}
use Rattle.std.proofs.lemmas.List.{length-append, drop_more}
use Rattle.klv_base.specs.declared.local_set.SetItem.{SetItem}
use Rattle.klv_base.specs.Items.{set_item, set_value}

length-set_item : (x : SetItem) → length (set_item x) ≡ 4 + length x.value
length-set_item x = omega arith

-- the items from a place on, one by one
pub length-set_value-drop :
    (items : List SetItem) (i : ℕ) (x : SetItem) → i < length items → x ≡ get_or items i x →
    length (set_value (drop i items)) ≡ 4 + length x.value + length (set_value (drop (i + 1) items))
length-set_value-drop items i x inside is =
    let rest = drop (i + 1) items in
    ap (λ xs. length (set_value xs)) (drop_more items i x inside)
    ∙ ap (λ y. length (set_value (y ∷ rest))) (sym is)
    ∙ omega (arith, length-append (set_item x) (set_value rest), length-set_item x)
