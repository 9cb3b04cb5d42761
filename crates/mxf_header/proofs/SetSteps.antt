-- The items of a set, row by row.
use Rattle.std.proofs.Common.{◌≡◌, ◌≢◌, ◌∙◌, ℕ, ◌+◌, ◌<◌, cond, List, [], ◌∷◌, ◌++◌, filter, map, take, length, get_or, sym, ap, ap₂, eq-eqb, append-nil}
use Rattle.std.specs.Prelude.{◌==◌}
use Rattle.std.proofs.lemmas.Bool.{ne_eqb}
use Rattle.std.proofs.lemmas.List.{map-append}
use Rattle.std.proofs.lemmas.List.Elements.{filter_more}
use Rattle.klv_base.specs.declared.local_set.SetItem.{SetItem}
use Rattle.track_terms.specs.Facts.{PlainFacts}
use Rattle.track_terms.specs.Sets.{item_of}
use Rattle.track_terms.specs.Values.{value_of}
use Rattle.track_terms.specs.declared.set.SetRow.{SetRow}

module _ (facts : PlainFacts) (k : ℕ) (rows : List SetRow) (i : ℕ) (d : SetRow) (there : i < length rows) where
  -- the items of the set among the first rows
  abbrev pub items_in : List SetRow → List SetItem
  items_in rows = map (item_of facts) (filter (λ row. row.set == k) rows)

  more : (items_in (take (i + 1) rows))
      ≡ items_in (take i rows) ++ map (item_of facts) (cond ((get_or rows i d).set == k) (get_or rows i d ∷ []) [])
  more = ap (map (item_of facts)) (filter_more (λ row. row.set == k) rows i d there) ∙ map-append (item_of facts) _ _

  pub items_in-kept : (value : List ℕ) (items items' : List SetItem) → (get_or rows i d).set ≡ k
      → value ≡ value_of facts (get_or rows i d).value → items ≡ items_in (take i rows)
      → items' ≡ items ++ record { tag = (get_or rows i d).tag; value = value } ∷ [] → items' ≡ items_in (take (i + 1) rows)
  items_in-kept value items items' kept is before pushed =
      pushed
      ∙ ap₂ (λ before v. before ++ record { tag = (get_or rows i d).tag; value = v } ∷ []) before is
      ∙ sym
      (more
      ∙ ap (λ b. items_in (take i rows) ++ map (item_of facts) (cond b (get_or rows i d ∷ []) [])) (eq-eqb (get_or rows i d).set k kept))

  pub items_in-passed : (get_or rows i d).set ≢ k → items_in (take (i + 1) rows) ≡ items_in (take i rows)
  items_in-passed other =
      more
      ∙ ap (λ b. items_in (take i rows) ++ map (item_of facts) (cond b (get_or rows i d ∷ []) [])) (ne_eqb (get_or rows i d).set k other)
      ∙ append-nil (items_in (take i rows))
