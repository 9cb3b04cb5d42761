use Rattle.std.proofs.Common.{◌≡◌, ◌∙◌, ◌+◌, ◌*◌, ap, ap₂, sym, arith, get_or}
use Rattle.codec_terms.specs.Grid.{grid_of}
use Rattle.codec_terms.specs.TagTree.{new_node, no_node}
use Rattle.tag_tree.specs.Children.{least_child}
use Rattle.packet_size.specs.SmallTrees.{half}
use Rattle.packet_size.proofs.Building.{parents-more, parents-all, row-inside, four-parents}
use Rattle.packet_size.proofs.build.parents_of.Goals as goal

pub least_of-requires-clause-column : goal.least_of-requires-clause-column
least_of-requires-clause-column c = omega (arith, c.loop-number.invariant.column, c.div_ceil-wide.ensures)

pub least_of-requires-clause-row : goal.least_of-requires-clause-row
least_of-requires-clause-row c =
    let l = c.loop-number in
    let row = row-inside c.div_ceil-wide.result c.div_ceil.result l.at.x l.at.y l.number l.invariant.place l.invariant.column c.loop-number-test.true in
    omega (arith, row, c.div_ceil.ensures)

pub loop-number-preserved : goal.loop-number-preserved
loop-number-preserved c =
    let l = c.loop-number in
    let product : c.div_ceil-wide.result * c.div_ceil.result ≡ half c.args.columns * half c.args.rows = ap₂ (λ m n. m * n) c.div_ceil-wide.ensures c.div_ceil.ensures in
    record {
      place = c.next-at.ensures.number ∙ ap (λ n. n + 1) l.invariant.place;
      column = c.next-at.ensures.column;
      row = omega (arith, c.next-at.ensures.row, l.invariant.row);
      done = parents-more (λ x y. new_node (least_child (grid_of c.args.columns c.args.rows c.args.leaves.now) x y)) l.parents l.number c.div_ceil-wide.result l.at.x l.at.y c.least_of.result
          (omega (arith, c.loop-number-test.true, product, four-parents c.args.columns c.args.rows c.requires.small)) l.invariant.place l.invariant.column c.least_of.ensures l.invariant.done;
    }

pub returns : goal.returns
returns c = λ x y column row.
    let l = c.loop-number in
    let across = c.div_ceil-wide.ensures in
    let product : c.div_ceil-wide.result * c.div_ceil.result ≡ c.div_ceil-wide.result * half c.args.rows = ap (λ n. c.div_ceil-wide.result * n) c.div_ceil.ensures in
    ap (λ w. get_or l.parents (y * w + x) no_node) (sym across)
    ∙ parents-all (λ x y. new_node (least_child (grid_of c.args.columns c.args.rows c.args.leaves.now) x y)) l.parents l.number c.div_ceil-wide.result (half c.args.rows) x y
    (omega (arith, c.loop-number-test.false, product)) (omega (arith, across, column)) row l.invariant.done
