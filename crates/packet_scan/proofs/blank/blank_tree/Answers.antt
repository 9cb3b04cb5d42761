use Rattle.std.proofs.Common.{◌≡◌, ◌∙◌, ap, ap₂, Bool}
use Rattle.std.specs.Prelude.{not}
use Rattle.codec_terms.specs.TagTree.{is_root}
use Rattle.packet_scan.specs.SmallTrees.{half}
use Rattle.packet_scan.specs.Trees.{tree_of, blank_where}
use Rattle.packet_scan.proofs.Blanks.{blank-is}
use Rattle.packet_scan.proofs.blank.blank_tree.Goals as goal

pub returns-clause-tree : goal.returns-clause-tree
unfolding tree_of
returns-clause-tree c =
    let columns = c.args.columns in
    let rows = c.args.rows in
    let t : c.blank_node.result ≡ blank_where (not (is_root (half columns) (half rows))) =
    c.blank_node.ensures ∙ ap (λ (b : Bool). blank_where (not b)) (c.is_root-has_top.ensures ∙ ap₂ is_root c.div_ceil.ensures c.div_ceil-2.ensures) in
    let q : c.blank_node-2.result ≡ blank_where (not (is_root columns rows)) = c.blank_node-2.ensures ∙ ap (λ (b : Bool). blank_where (not b)) c.is_root-has_parents.ensures in
    rw (t, q, c.new.ensures) (blank-is columns rows c.requires.small)
