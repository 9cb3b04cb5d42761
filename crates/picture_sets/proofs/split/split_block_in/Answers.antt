use Rattle.std.proofs.Common.{sym, arith}
use Rattle.codec_terms.specs.Bands.{band_columns, band_rows}
use Rattle.codec_terms.specs.Codestream.{block_of}
use Rattle.picture_sets.specs.Sets.{block_in}
use Rattle.picture_sets.proofs.Rows.{row_left, rows_are, before}
use Rattle.picture_sets.proofs.split.split_block_in.Goals as goal

pub fill_from_rows-requires-clause-within : goal.fill_from_rows-requires-clause-within
fill_from_rows-requires-clause-within c = λ r inside.
    row_left c.args.shape c.args.band c.args.x c.args.y r _ _ _ _ c.args.words.now c.band_size-columns.ensures.columns c.block_size-width.ensures.width c.block_size-width.ensures.height
    c.first_word-first.ensures.place c.requires.whole c.requires.column c.requires.row inside

pub returns : goal.returns
unfolding block_of
returns c =
    let b = block_in c.args.shape c.args.band c.args.words.now c.args.x c.args.y in
    let wide = before (band_columns c.args.shape c.args.band) c.args.x c.requires.column in
    let high = before (band_rows c.args.shape c.args.band) c.args.y c.requires.row in
    c.split.ensures b (omega arith) (omega arith)
    (c.band_block_laws.ensures.whole c.args.shape c.args.band c.args.words.now c.args.x c.args.y c.requires.whole wide high)
    (c.fill_from_rows.ensures b (sym c.block_size-width.ensures.width) (sym c.block_size-width.ensures.height)
    (rows_are b _ _ _ _ c.args.words.now c.band_size-columns.ensures.columns c.first_word-first.ensures.place
    (c.band_block_laws.ensures.rows c.args.shape c.args.band c.args.words.now c.args.x c.args.y c.requires.whole wide high)))
