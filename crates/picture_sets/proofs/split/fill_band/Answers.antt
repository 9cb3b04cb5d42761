use Rattle.std.proofs.Common.{◌+◌, ap, ◌∙◌, arith}
use Rattle.quantiser.specs.Signed.{signed_values}
use Rattle.picture_sets.specs.Blocks.{IsSplit, no_sets}
use Rattle.picture_sets.specs.Sets.{picture_block}
use Rattle.picture_sets.proofs.Bands.{nth, all_of, nth_inside, hold_more, hold_at}
use Rattle.picture_sets.proofs.Words.{of_picture}
use Rattle.picture_sets.proofs.split.fill_band.Goals as goal

pub bounds-sets-place : goal.bounds-sets-place
bounds-sets-place c =
    nth_inside c.args.shape c.args.band c.loop-n.n _ _ c.args.first _ c.requires.picture c.block_columns_rows-columns.ensures.columns c.block_columns_rows-columns.ensures.rows c.loop-n-test.true
    c.requires.first (c.loop-n.auto.sets ∙ c.requires.there)

pub loop-n-preserved : goal.loop-n-preserved
loop-n-preserved c =
    let shape = c.args.shape in
    let band = c.args.band in
    let sets = c.loop-n.sets in
    let at = nth shape band c.loop-n.n _ _ c.block_columns_rows-columns.ensures.columns c.block_columns_rows-columns.ensures.rows c.loop-n-test.true in
    hold_more (λ b x y s. IsSplit (picture_block shape (signed_values c.args.words.now) b x y) s) no_sets shape sets (c.args.first + c.loop-n.n) _ band _ _ c.split_block_in.new.block
    c.requires.picture at.column at.row (ap (λ k. k + c.loop-n.n) c.requires.first ∙ at.place) (omega arith)
    (nth_inside shape band c.loop-n.n _ _ c.args.first _ c.requires.picture c.block_columns_rows-columns.ensures.columns c.block_columns_rows-columns.ensures.rows c.loop-n-test.true
    c.requires.first (c.loop-n.auto.sets ∙ c.requires.there))
    (of_picture shape band c.args.words.now _ _ _ _ c.split_block_in.new.block c.band_start-start.ensures.start (omega (arith, c.band_length.ensures.length)) c.split_block_in.ensures)
    c.loop-n.invariant

pub returns : goal.returns
returns c =
    hold_at (λ b x y s. IsSplit (picture_block c.args.shape (signed_values c.args.words.now) b x y) s) no_sets c.args.shape c.loop-n.sets (c.args.first + c.loop-n.n) _
    (all_of c.args.shape c.args.band c.loop-n.n _ _ c.args.first c.block_columns_rows-columns.ensures.columns c.block_columns_rows-columns.ensures.rows c.loop-n-test.false c.loop-n.auto.n-end) c.loop-n.invariant
