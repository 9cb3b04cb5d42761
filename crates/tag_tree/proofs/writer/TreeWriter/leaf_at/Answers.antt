use Rattle.std.proofs.Common.{◌*◌, ◌/◌, ◌%◌, ◌∙◌, subst, sym, ap}
use Rattle.codec_terms.specs.TagTree.{Tree}
use Rattle.tag_tree.specs.Trees.{leaf_count}
use Rattle.tag_tree.specs.Sizes.{HasPlace}
use Rattle.tag_tree.proofs.Shapes.{place-in, told-kept}
use Rattle.tag_tree.proofs.writer.TreeWriter.leaf_at.Goals as goal

pub push_bits-requires-clause-place : goal.push_bits-requires-clause-place
push_bits-requires-clause-place c =
    let s = c.self.inside in
    let a = c.args in
    subst (λ levels. HasPlace (a.at % s.columns) (a.at / s.columns) levels) (sym c.deref.ensures.value)
    (place-in s.columns s.rows a.at (leaf_count a.self.now) s.levels.items c.self.invariant (ap (λ (tree : Tree). leaf_count tree) c.self.view_is) c.requires.leaf)

pub tell-requires-clause-place : goal.tell-requires-clause-place
tell-requires-clause-place c =
    let s = c.self.inside in
    let a = c.args in
    subst (λ levels. HasPlace (a.at % s.columns) (a.at / s.columns) levels) (sym c.deref_mut.ensures.value)
    (place-in s.columns s.rows a.at (leaf_count a.self.now) s.levels.items c.self.invariant (ap (λ (tree : Tree). leaf_count tree) c.self.view_is) c.requires.leaf)

pub invariant_of-self : goal.invariant_of-self
invariant_of-self c =
    let s = c.self.inside in
    let a = c.args in
    (told-kept s.columns s.rows s.levels.len a.threshold a.at (leaf_count a.self.now) s.levels.items _ c.tell.new.levels c.self.invariant (ap (λ (tree : Tree). leaf_count tree) c.self.view_is)
    c.requires.leaf s.levels.ok.0 c.deref_mut.ensures.value c.tell.ensures).whole

pub returns-in-Ok-clause-size : goal.returns-in-Ok-clause-size
returns-in-Ok-clause-size c =
    let s = c.self.inside in
    let a = c.args in
    let kept = told-kept s.columns s.rows s.levels.len a.threshold a.at (leaf_count a.self.now) s.levels.items _ c.tell.new.levels c.self.invariant (ap (λ (tree : Tree). leaf_count tree) c.self.view_is)
    c.requires.leaf s.levels.ok.0 c.deref_mut.ensures.value c.tell.ensures in
    ap (λ n. n * s.columns) kept.leaves ∙ ap (λ (tree : Tree). leaf_count tree) c.self.view_is
