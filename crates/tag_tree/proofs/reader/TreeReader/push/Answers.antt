use Rattle.std.proofs.Common.{◌*◌, ◌/◌, ◌%◌, ◌∙◌, subst, sym, ap}
use Rattle.codec_terms.specs.TagTree.{FoundTree}
use Rattle.tag_tree.specs.Trees.{found_count}
use Rattle.tag_tree.specs.Sizes.{HasPlace}
use Rattle.tag_tree.proofs.Shapes.{place-in, pushed-kept}
use Rattle.tag_tree.proofs.reader.TreeReader.push.Goals as goal

pub push-requires-clause-place : goal.push-requires-clause-place
push-requires-clause-place c =
    let s = c.self.inside in
    let a = c.args in
    subst (λ levels. HasPlace (a.at % s.columns) (a.at / s.columns) levels) (sym c.deref_mut.ensures.value)
    (place-in s.columns s.rows a.at (found_count a.self.now) s.levels.items c.self.invariant (ap (λ (tree : FoundTree). found_count tree) c.self.view_is) c.requires.leaf)

pub invariant_of-self : goal.invariant_of-self
invariant_of-self c =
    let s = c.self.inside in
    let a = c.args in
    (pushed-kept s.columns s.rows s.levels.len a.bit a.threshold a.at (found_count a.self.now) s.levels.items _ c.push.new.levels c.self.invariant (ap (λ (tree : FoundTree). found_count tree) c.self.view_is)
    c.requires.leaf s.levels.ok.0 c.deref_mut.ensures.value c.push.ensures).whole

pub returns-clause-size : goal.returns-clause-size
returns-clause-size c =
    let s = c.self.inside in
    let a = c.args in
    let kept = pushed-kept s.columns s.rows s.levels.len a.bit a.threshold a.at (found_count a.self.now) s.levels.items _ c.push.new.levels c.self.invariant (ap (λ (tree : FoundTree). found_count tree) c.self.view_is)
    c.requires.leaf s.levels.ok.0 c.deref_mut.ensures.value c.push.ensures in
    ap (λ n. n * s.columns) kept.leaves ∙ ap (λ (tree : FoundTree). found_count tree) c.self.view_is
