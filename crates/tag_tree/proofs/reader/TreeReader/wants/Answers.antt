use Rattle.std.proofs.Common.{◌/◌, ◌%◌, subst, sym, ap}
use Rattle.codec_terms.specs.TagTree.{FoundTree}
use Rattle.tag_tree.specs.Trees.{found_count}
use Rattle.tag_tree.specs.Sizes.{HasPlace}
use Rattle.tag_tree.proofs.Shapes.{place-in}
use Rattle.tag_tree.proofs.reader.TreeReader.wants.Goals as goal

pub wants-requires-clause-place : goal.wants-requires-clause-place
wants-requires-clause-place c =
    let s = c.self.inside in
    let a = c.args in
    subst (λ levels. HasPlace (a.at % s.columns) (a.at / s.columns) levels) (sym c.deref.ensures.value)
    (place-in s.columns s.rows a.at (found_count a.self.now) s.levels.items c.self.invariant (ap (λ (tree : FoundTree). found_count tree) c.self.view_is) c.requires.leaf)
