use Rattle.std.proofs.Common.{◌∙◌, sym, ap, length}
use Rattle.codec_terms.specs.TagTree.{Tree, new_tree}
use Rattle.tag_tree.specs.Trees.{leaf_rows, leaf_count}
use Rattle.tag_tree.proofs.NewTree.{filled-is, whole-leaves, new_tree-rows}
use Rattle.tag_tree.proofs.writer.TreeWriter.reset.Goals as goal

pub fill-requires-clause-values : goal.fill-requires-clause-values
fill-requires-clause-values c =
    let s = c.self.inside in
    let a = c.args in
    whole-leaves s.columns s.rows (length a.values.now) s.levels.items c.self.invariant (c.requires ∙ ap (λ (tree : Tree). leaf_count tree) (sym c.self.view_is))

pub invariant_of-self : goal.invariant_of-self
invariant_of-self c =
    let s = c.self.inside in
    let a = c.args in
    let whole = whole-leaves s.columns s.rows (length a.values.now) s.levels.items c.self.invariant (c.requires ∙ ap (λ (tree : Tree). leaf_count tree) (sym c.self.view_is)) in
    (filled-is s.columns s.rows s.levels.len a.values.now s.levels.items _ c.fill.new.levels whole c.self.invariant s.levels.ok.0 c.deref_mut.ensures.value c.fill.ensures).whole

pub returns-clause-tree : goal.returns-clause-tree
returns-clause-tree c =
    let s = c.self.inside in
    let a = c.args in
    let whole = whole-leaves s.columns s.rows (length a.values.now) s.levels.items c.self.invariant (c.requires ∙ ap (λ (tree : Tree). leaf_count tree) (sym c.self.view_is)) in
    (filled-is s.columns s.rows s.levels.len a.values.now s.levels.items _ c.fill.new.levels whole c.self.invariant s.levels.ok.0 c.deref_mut.ensures.value c.fill.ensures).tree
    ∙ new_tree-rows s.columns s.rows a.values.now s.levels.items c.self.invariant
    ∙ ap (λ (tree : Tree). new_tree tree.columns (leaf_rows tree.levels) a.values.now) c.self.view_is

pub returns-clause-size : goal.returns-clause-size
returns-clause-size c =
    let s = c.self.inside in
    let a = c.args in
    let whole = whole-leaves s.columns s.rows (length a.values.now) s.levels.items c.self.invariant (c.requires ∙ ap (λ (tree : Tree). leaf_count tree) (sym c.self.view_is)) in
    (filled-is s.columns s.rows s.levels.len a.values.now s.levels.items _ c.fill.new.levels whole c.self.invariant s.levels.ok.0 c.deref_mut.ensures.value c.fill.ensures).leaves
    ∙ sym whole ∙ c.requires
