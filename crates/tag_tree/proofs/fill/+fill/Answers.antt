use Rattle.std.proofs.Common.{◌∙◌, ◌<◌, sym, ap, arith, length, subst}
use Rattle.std.specs.List.{slice_get}
use Rattle.codec_terms.specs.Grid.{grid_of}
use Rattle.tag_tree.specs.Children.{ancestors}
use Rattle.tag_tree.specs.Sizes as sizes
use Rattle.tag_tree.specs.Sizes.{IsTower, IsSized}
use Rattle.tag_tree.proofs.Parents.{IsFirst, first-raised, none-raised, one-more, none-there, leaves-level, leaves-values, IsHalf-next, gathered, IsSized-grid_of, nodes}
use Rattle.tag_tree.proofs.fill.+fill.Goals as goal

pub gather-requires : goal.gather-requires
gather-requires t c =
    let a = c.args in
    let grid = grid_of a.columns a.rows a.values.now in
    let level = c.in-Some.level.now in
    let m = length c.in-Some.below.now in
    let some : 0 < length a.levels.now = omega (arith, c.in-Some.ensures.cases.1) in
    let next = c.in-Some-first.next.now in
    let first : IsFirst m grid next = first-raised m grid next (c.in-Some-first.ensures.value ∙ ap (λ levels. slice_get levels 0) c.fill.ensures) in
    let tower = subst (λ levels. IsTower a.columns a.rows levels) c.in-Some.ensures.cases.0 c.requires.tower in
    let here = subst (λ n. IsSized (sizes.halved n a.columns) (sizes.halved n a.rows) level) first.count tower.0 in
    IsHalf-next first.n a.columns a.rows grid level next first.is (IsSized-grid_of a.columns a.rows a.values.now c.requires.values) (c.requires.some_columns some) (c.requires.some_rows some) here

pub set_values-requires : goal.set_values-requires
set_values-requires t c =
    let a = c.args in
    let grid = grid_of a.columns a.rows a.values.now in
    let level = c.in-Some.level.now in
    let m = length c.in-Some.below.now in
    let some : 0 < length a.levels.now = omega (arith, c.in-Some.ensures.cases.1) in
    let none = none-raised m grid (c.in-None.ensures.value ∙ ap (λ levels. slice_get levels 0) c.fill.ensures) in
    let tower = subst (λ levels. IsTower a.columns a.rows levels) c.in-Some.ensures.cases.0 c.requires.tower in
    let here = subst (λ n. IsSized (sizes.halved n a.columns) (sizes.halved n a.rows) level) none tower.0 in
    leaves-values a.columns a.rows level a.values.now here (c.requires.some_rows some) c.requires.values

pub returns-in-Some-first : goal.returns-in-Some-first
returns-in-Some-first t c =
    let a = c.args in
    let grid = grid_of a.columns a.rows a.values.now in
    let level = c.in-Some.level.now in
    let m = length c.in-Some.below.now in
    let some : 0 < length a.levels.now = omega (arith, c.in-Some.ensures.cases.1) in
    let next = c.in-Some-first.next.now in
    let first : IsFirst m grid next = first-raised m grid next (c.in-Some-first.ensures.value ∙ ap (λ levels. slice_get levels 0) c.fill.ensures) in
    let tower = subst (λ levels. IsTower a.columns a.rows levels) c.in-Some.ensures.cases.0 c.requires.tower in
    let here = subst (λ n. IsSized (sizes.halved n a.columns) (sizes.halved n a.rows) level) first.count tower.0 in
    let up = gathered first.n a.columns a.rows grid level next first.is (IsSized-grid_of a.columns a.rows a.values.now c.requires.values) (c.requires.some_columns some) (c.requires.some_rows some) here
    c.gather.new.self c.gather.ensures.sized c.gather.ensures.items in
    one-more m (length a.levels.now) grid c.gather.new.self c.fill.new.levels (up ∙ ap (λ n. nodes (ancestors n grid)) (sym first.count)) c.fill.ensures c.in-Some.ensures.cases.1

pub returns-in-None : goal.returns-in-None
returns-in-None t c =
    let a = c.args in
    let grid = grid_of a.columns a.rows a.values.now in
    let level = c.in-Some.level.now in
    let m = length c.in-Some.below.now in
    let some : 0 < length a.levels.now = omega (arith, c.in-Some.ensures.cases.1) in
    let none = none-raised m grid (c.in-None.ensures.value ∙ ap (λ levels. slice_get levels 0) c.fill.ensures) in
    let tower = subst (λ levels. IsTower a.columns a.rows levels) c.in-Some.ensures.cases.0 c.requires.tower in
    let here = subst (λ n. IsSized (sizes.halved n a.columns) (sizes.halved n a.rows) level) none tower.0 in
    one-more m (length a.levels.now) grid c.set_values.new.self c.fill.new.levels
    (c.set_values.ensures ∙ leaves-level a.columns a.rows level a.values.now here (c.requires.some_rows some) ∙ ap (λ n. nodes (ancestors n grid)) (sym none)) c.fill.ensures c.in-Some.ensures.cases.1

pub returns-in_default : goal.returns-in_default
returns-in_default t c =
    none-there (length c.args.levels.now) (grid_of c.args.columns c.args.rows c.args.values.now) c.args.levels.now c.in_default.ensures.cases c.in_default.ensures.cases
