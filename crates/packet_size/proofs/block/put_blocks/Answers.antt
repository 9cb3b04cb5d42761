use Rattle.std.proofs.Common.{◌≡◌, ◌∙◌, ◌+◌, ◌*◌, ap, sym, arith}
use Rattle.packet_size.specs.Trees.{tree_of}
use Rattle.packet_size.proofs.BlocksTold.{blocks-more, blocks-all}
use Rattle.packet_size.proofs.block.put_blocks.Goals as goal

pub loop-block-preserved : goal.loop-block-preserved
loop-block-preserved c =
    let a = c.args in
    let l = c.loop-block in
    let i = l.invariant in
    let put = c.put_block in
    let next = c.next-at in
    let columns : put.new.layers.columns ≡ a.layers.now.columns = put.ensures.layers_columns ∙ i.layers_columns in
    record {
      sent = blocks-more l.counter put.new.counter _ (tree_of l.layers) (tree_of l.planes) (tree_of put.new.layers) (tree_of put.new.planes) (l.at.y * l.layers.columns + l.at.x) l.block-index a.blocks.now _
          (omega (arith, c.loop-block-test.true)) (ap (λ n. l.at.y * n + l.at.x) i.layers_columns ∙ i.place) put.ensures.bits put.ensures.layers put.ensures.planes i.sent;
      few = omega (arith, put.ensures.few, i.few);
      place = ap (λ n. next.result.y * n + next.result.x) (sym columns) ∙ next.ensures.number ∙ ap (λ n. l.at.y * n + l.at.x + 1) columns ∙ ap (λ n. n + 1) i.place;
      column = omega (arith, next.ensures.column, columns);
      row = omega (arith, next.ensures.row, i.row);
      layers_columns = columns;
      layers_rows = put.ensures.layers_rows ∙ i.layers_rows;
      planes_columns = put.ensures.planes_columns ∙ i.planes_columns;
      planes_rows = put.ensures.planes_rows ∙ i.planes_rows;
    }

pub returns-clause-bits : goal.returns-clause-bits
returns-clause-bits c =
    let l = c.loop-block in
    blocks-all l.counter _ (tree_of l.layers) (tree_of l.planes) l.block-index c.args.blocks.now (omega (arith, c.loop-block-test.false)) l.invariant.sent
