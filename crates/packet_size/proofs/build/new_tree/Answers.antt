use Rattle.std.proofs.Common.{◌∙◌, ap₂, sym, arith}
use Rattle.codec_terms.specs.Grid.{grid_of}
use Rattle.codec_terms.specs.TagTree.{new_node, is_root}
use Rattle.tag_tree.specs.Children.{least_child}
use Rattle.packet_size.specs.Trees.{tree_of}
use Rattle.packet_size.proofs.Building.{new-one, new-two, new-three, four-parents, most-leaves}
use Rattle.packet_size.proofs.build.new_tree.Goals as goal

pub returns-then-is_root-clause-tree : goal.returns-then-is_root-clause-tree
unfolding tree_of
returns-then-is_root-clause-tree c =
    let a = c.args in
    new-one a.columns a.rows a.values.now c.leaves_of-leaves.result c.requires.small c.requires.values (omega (arith, most-leaves a.columns a.rows c.requires.small)) c.leaves_of-leaves.ensures _ _
    (sym c.is_root.ensures ∙ c.if-is_root.true)

pub returns-then-is_root-2-clause-tree : goal.returns-then-is_root-2-clause-tree
unfolding tree_of
returns-then-is_root-2-clause-tree c =
    let a = c.args in
    new-two a.columns a.rows a.values.now c.leaves_of-leaves.result c.requires.small c.requires.values (omega (arith, most-leaves a.columns a.rows c.requires.small)) c.leaves_of-leaves.ensures
    c.none-then-is_root-2.result c.parents_of-parents.result (omega (arith, four-parents a.columns a.rows c.requires.small)) c.parents_of-parents.ensures
    (sym c.is_root.ensures ∙ c.if-is_root.false) (sym (ap₂ is_root c.div_ceil-wide.ensures c.div_ceil-high.ensures) ∙ sym c.is_root-2.ensures ∙ c.if-is_root-2.true)

pub returns-clause-tree : goal.returns-clause-tree
unfolding tree_of
returns-clause-tree c =
    let a = c.args in
    new-three a.columns a.rows a.values.now c.leaves_of-leaves.result c.requires.small c.requires.values (omega (arith, most-leaves a.columns a.rows c.requires.small)) c.leaves_of-leaves.ensures
    c.least_of-top.result c.parents_of-parents.result (omega (arith, four-parents a.columns a.rows c.requires.small)) c.parents_of-parents.ensures
    (c.least_of-top.ensures ∙ ap₂ (λ m n. new_node (least_child (grid_of m n c.parents_of-parents.result) 0 0)) c.div_ceil-wide.ensures c.div_ceil-high.ensures)
    (sym c.is_root.ensures ∙ c.if-is_root.false) (sym (ap₂ is_root c.div_ceil-wide.ensures c.div_ceil-high.ensures) ∙ sym c.is_root-2.ensures ∙ c.if-is_root-2.false)
