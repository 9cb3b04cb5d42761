use Rattle.std.proofs.Common.{◌+◌, ap, ◌∙◌}
use Rattle.codec_terms.specs.declared.picture.Shape.{Shape}
use Rattle.codec_terms.specs.Precincts.{block_columns, block_rows}
use Rattle.picture_sets.proofs.Bands.{nth}
use Rattle.picture_blocks.proofs.Steps.{still-further, coded-more, all-first}
use Rattle.picture_blocks.proofs.coding.code_blocks.Goals as goal

pub loop-n-preserved : goal.loop-n-preserved
loop-n-preserved c =
    let shape = c.args.sets.now.shape in
    let band = c.args.band in
    let across = c.block_columns_rows-columns.ensures.columns ∙ ap (λ (s : Shape). block_columns s band) c.shape.ensures.shape in
    let down = c.block_columns_rows-columns.ensures.rows ∙ ap (λ (s : Shape). block_rows s band) c.shape.ensures.shape in
    let at = nth shape band c.loop-n.n _ _ across down c.loop-n-test.true in
    record {
      blocks = λ q are parts. c.in_ok-code_block.ensures.blocks q are (c.loop-n.invariant.blocks q are parts);
      further = still-further _ _ _ c.loop-n.invariant.further c.in_ok-code_block.ensures.further;
      coded = λ q are.
          coded-more q band c.args.lowest c.loop-n.n (c.args.first + c.loop-n.n) shape c.loop-n.blocks c.code_block.new.blocks _ _ c.requires.picture at
          (ap (λ k. k + c.loop-n.n) c.requires.first ∙ at.place) c.in_ok-code_block.ensures.further (c.in_ok-code_block.ensures.coded q are) (c.loop-n.invariant.coded q are);
    }

pub code_block-requires-clause-place : goal.code_block-requires-clause-place
code_block-requires-clause-place c =
    let across = c.block_columns_rows-columns.ensures.columns ∙ ap (λ (s : Shape). block_columns s c.args.band) c.shape.ensures.shape in
    let down = c.block_columns_rows-columns.ensures.rows ∙ ap (λ (s : Shape). block_rows s c.args.band) c.shape.ensures.shape in
    ap (λ k. k + c.loop-n.n) c.requires.first ∙ (nth c.args.sets.now.shape c.args.band c.loop-n.n _ _ across down c.loop-n-test.true).place

pub returns-clause-coded : goal.returns-clause-coded
returns-clause-coded c = λ q are.
    let across = c.block_columns_rows-columns.ensures.columns ∙ ap (λ (s : Shape). block_columns s c.args.band) c.shape.ensures.shape in
    let down = c.block_columns_rows-columns.ensures.rows ∙ ap (λ (s : Shape). block_rows s c.args.band) c.shape.ensures.shape in
    all-first q c.args.band c.args.lowest c.loop-n.n _ _ c.args.sets.now.shape c.loop-n.blocks across down c.loop-n-test.false (c.loop-n.invariant.coded q are)
