use Rattle.std.proofs.Common.{◌≡◌, suc, ◌-◌, ◌/◌, ◌%◌, ◌∙◌, subst, sym, ap, arith, length, get_or}
use Rattle.codec_terms.specs.Grid.{grid_item}
use Rattle.codec_terms.specs.TagTree.{FoundTree, leaf_value}
use Rattle.codec_laws.specs.TreeReading.{IsInside, no_found}
use Rattle.tag_tree.specs.Trees.{found_count}
use Rattle.tag_tree.proofs.Shapes.{place-in, last-place, last-found, value_of}
use Rattle.tag_tree.proofs.reader.TreeReader.value.Goals as goal

pub get-requires : goal.get-requires
get-requires c =
    let s = c.self.inside in
    let x = c.args.at % s.columns in
    let y = c.args.at / s.columns in
    let n = length c.as_slice.result.now - 1 in
    let leaves = c.leaves-item.result in
    let count : suc n ≡ length s.levels.items = omega (arith, c.in-len1-up.len_at_least, ap length c.as_slice.ensures.value) in
    let place = place-in s.columns s.rows c.args.at (found_count c.args.self.now) s.levels.items c.self.invariant (ap (λ (tree : FoundTree). found_count tree) c.self.view_is) c.requires.leaf in
    record {
      inside = subst (λ grid. IsInside grid x y) (sym (c.leaves-item.is ∙ ap (λ levels. get_or levels n leaves) c.as_slice.ensures.value))
          (last-place x y n s.levels.items leaves place count);
    }

pub returns-in-len1-up : goal.returns-in-len1-up
returns-in-len1-up c =
    let s = c.self.inside in
    let x = c.args.at % s.columns in
    let y = c.args.at / s.columns in
    let n = length c.as_slice.result.now - 1 in
    let leaves = c.leaves-item.result in
    let count : suc n ≡ length s.levels.items = omega (arith, c.in-len1-up.len_at_least, ap length c.as_slice.ensures.value) in
    c.value.ensures ∙ ap value_of (c.get.ensures no_found)
    ∙ ap (λ grid. value_of (grid_item no_found grid x y)) (c.leaves-item.is ∙ ap (λ levels. get_or levels n leaves) c.as_slice.ensures.value)
    ∙ sym (last-found x y n s.levels.items leaves count)
    ∙ ap (λ (tree : FoundTree). leaf_value tree c.args.at) c.self.view_is
