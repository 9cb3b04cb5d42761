use Rattle.std.proofs.Common.{◌*◌, ◌∙◌, refl, ap, List}
use Rattle.codec_terms.specs.TagTree.{Found, FoundTree}
use Rattle.tag_tree.specs.Sizes.{same_tree}
use Rattle.tag_tree.specs.Trees.{leaf_rows}
use Rattle.tag_tree.proofs.NewTree.{whole-leaves}
use Rattle.tag_tree.proofs.Heights.{same_tree-blank}
use Rattle.tag_tree.proofs.reader.TreeReader.new.Goals as goal

pub returns-clause-tree : goal.returns-clause-tree
returns-clause-tree c =
    ap (λ (levels : List (List (List Found))). let tree : FoundTree = record { columns = c.args.columns; levels = levels } in tree)
    (c.in_ok-levels_of.ensures.levels ∙ ap (λ node. same_tree node c.args.columns c.args.rows) c.nothing.ensures)
    ∙ same_tree-blank c.args.columns c.args.rows

pub returns-clause-leaves : goal.returns-clause-leaves
returns-clause-leaves c =
    let levels = c.in_ok-levels_of.field-0.items in
    whole-leaves c.args.columns c.args.rows (leaf_rows levels * c.args.columns) levels c.in_ok-levels_of.ensures.whole refl
