use Rattle.std.proofs.Common.{◌≡◌, ◌∙◌, ◌+◌, ◌-◌, ◌*◌, ◌∷◌, sym, ap, arith, Err}
use Rattle.std.specs.List.{range_with_len}
use Rattle.std.proofs.lemmas.Result.{err_from_is_err_and}
use Rattle.codec_terms.specs.PacketReading.{blocks_read}
use Rattle.packet_scan.specs.Scanning.{with_sizes}
use Rattle.packet_scan.specs.Trees.{tree_of}
use Rattle.packet_scan.proofs.BlockSteps.{next_block, no_blocks, sizes-refused}
use Rattle.packet_scan.proofs.band.read_blocks.Goals as goal

pub returns-in_err-read_block-clause-refused : goal.returns-in_err-read_block-clause-refused
returns-in_err-read_block-clause-refused c =
    let e = err_from_is_err_and c.from_residual.result c.from_residual.ensures.1 in
    let a = c.args in
    let l = c.loop in
    let count = a.shape.columns * a.shape.rows in
    let next = next_block l.counter count c.loop-test.true in
    let here : l.at.y * l.layers.columns + l.at.x ≡ l.counter = ap (λ n. l.at.y * n + l.at.x) l.invariant.layers_columns ∙ l.invariant.place in
    let more = range_with_len (l.counter + 1) (count - (l.counter + 1)) in
    let refused : blocks_read a.bytes.now a.shape.mb (tree_of l.layers) (tree_of l.planes) (range_with_len l.counter (count - l.counter)) l.place ≡ Err c.in_err-read_block.field-0.0 =
    ap (λ blocks. blocks_read a.bytes.now a.shape.mb (tree_of l.layers) (tree_of l.planes) blocks l.place) next
    ∙ ap (λ at. blocks_read a.bytes.now a.shape.mb (tree_of l.layers) (tree_of l.planes) (at ∷ more) l.place) (sym here) ∙ c.in_err-read_block.ensures.refused more in
    rw (e.1, e.2) (sizes-refused a.sizes.now _ c.in_err-read_block.field-0.0 (l.invariant.same ∙ ap (with_sizes l.sizes) refused))

pub loop-preserved : goal.loop-preserved
loop-preserved c =
    let a = c.args in
    let l = c.loop in
    let put = c.read_block in
    let ok = c.in_ok-read_block.ensures in
    let count = a.shape.columns * a.shape.rows in
    let next = next_block l.counter count c.loop-test.true in
    let here : l.at.y * l.layers.columns + l.at.x ≡ l.counter = ap (λ n. l.at.y * n + l.at.x) l.invariant.layers_columns ∙ l.invariant.place in
    let more = range_with_len (l.counter + 1) (count - (l.counter + 1)) in
    record {
      same =
          l.invariant.same
          ∙ ap (λ blocks. with_sizes l.sizes (blocks_read a.bytes.now a.shape.mb (tree_of l.layers) (tree_of l.planes) blocks l.place)) next
          ∙ (ap (λ at. with_sizes l.sizes (blocks_read a.bytes.now a.shape.mb (tree_of l.layers) (tree_of l.planes) (at ∷ more) l.place)) (sym here) ∙ ok.read more);
      few = omega (arith, put.ensures.few, l.invariant.few);
      place = c.next-at.ensures.number ∙ ap (λ n. n + 1) l.invariant.place;
      column = c.next-at.ensures.column;
      row = omega (arith, c.next-at.ensures.row, l.invariant.row);
      layers_columns = put.ensures.layers_columns ∙ l.invariant.layers_columns;
      layers_rows = put.ensures.layers_rows ∙ l.invariant.layers_rows;
      planes_columns = put.ensures.planes_columns ∙ l.invariant.planes_columns;
      planes_rows = put.ensures.planes_rows ∙ l.invariant.planes_rows;
    }

pub returns-clause-read : goal.returns-clause-read
returns-clause-read c =
    let a = c.args in
    let l = c.loop in
    l.invariant.same
    ∙ no_blocks a.bytes.now l.sizes a.shape.mb (tree_of l.layers) (tree_of l.planes) l.counter (a.shape.columns * a.shape.rows) l.place c.loop-test.false
