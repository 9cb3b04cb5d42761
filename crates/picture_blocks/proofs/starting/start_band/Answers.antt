use Rattle.std.proofs.Common.{◌+◌, ap, ◌∙◌, arith}
use Rattle.codec_terms.specs.declared.picture.Shape.{Shape}
use Rattle.codec_terms.specs.Precincts.{block_columns, block_rows}
use Rattle.picture_sets.specs.Sets.{picture_block}
use Rattle.picture_sets.proofs.Bands.{nth, nth_inside, all_of, hold_more, hold_at}
use Rattle.picture_blocks.specs.Blocks.{no_code, IsCodedTo}
use Rattle.picture_blocks.proofs.starting.start_band.Goals as goal

pub loop-n-preserved : goal.loop-n-preserved
loop-n-preserved c = λ q are.
    let shape = c.args.sets.now.shape in
    let band = c.args.band in
    let across = c.block_columns_rows-columns.ensures.columns ∙ ap (λ (s : Shape). block_columns s band) c.shape.ensures.shape in
    let down = c.block_columns_rows-columns.ensures.rows ∙ ap (λ (s : Shape). block_rows s band) c.shape.ensures.shape in
    let at = nth shape band c.loop-n.n _ _ across down c.loop-n-test.true in
    hold_more (λ b x y s. IsCodedTo 15 (picture_block shape q b x y) s) no_code shape c.loop-n.blocks (c.args.first + c.loop-n.n) _ band _ _ c.start_block.new.block
    c.requires.picture at.column at.row (ap (λ k. k + c.loop-n.n) c.requires.first ∙ at.place) (omega arith)
    (nth_inside shape band c.loop-n.n _ _ c.args.first _ c.requires.picture across down c.loop-n-test.true c.requires.first (c.loop-n.auto.blocks ∙ c.requires.there))
    (c.start_block.ensures q are) (c.loop-n.invariant q are)

pub returns : goal.returns
returns c = λ q are.
    let shape = c.args.sets.now.shape in
    let band = c.args.band in
    let across = c.block_columns_rows-columns.ensures.columns ∙ ap (λ (s : Shape). block_columns s band) c.shape.ensures.shape in
    let down = c.block_columns_rows-columns.ensures.rows ∙ ap (λ (s : Shape). block_rows s band) c.shape.ensures.shape in
    hold_at (λ b x y s. IsCodedTo 15 (picture_block shape q b x y) s) no_code shape c.loop-n.blocks (c.args.first + c.loop-n.n) _
    (all_of shape band c.loop-n.n _ _ c.args.first across down c.loop-n-test.false c.loop-n.auto.n-end) (c.loop-n.invariant q are)

pub bounds-blocks-first : goal.bounds-blocks-first
bounds-blocks-first c =
    let across = c.block_columns_rows-columns.ensures.columns ∙ ap (λ (s : Shape). block_columns s c.args.band) c.shape.ensures.shape in
    let down = c.block_columns_rows-columns.ensures.rows ∙ ap (λ (s : Shape). block_rows s c.args.band) c.shape.ensures.shape in
    nth_inside c.args.sets.now.shape c.args.band c.loop-n.n _ _ c.args.first _ c.requires.picture across down c.loop-n-test.true c.requires.first (c.loop-n.auto.blocks ∙ c.requires.there)
