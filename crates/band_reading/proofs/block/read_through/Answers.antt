use Rattle.std.proofs.Common.{◌∙◌, ℕ, ◌*◌, ◌<◌, sym, ap, arith}
use Rattle.codec_terms.specs.Bands.{band_columns, band_rows}
use Rattle.band_reading.proofs.Standing.{group_bottom, read_sample, beside_block, kept_sample}
use Rattle.band_reading.proofs.block.read_through.Goals as goal

pub put_rows-requires-clause-bottom : goal.put_rows-requires-clause-bottom
put_rows-requires-clause-bottom c =
    let rows : ℕ = band_rows c.args.shape c.args.band in
    group_bottom c.band_size-columns.result.0 rows c.args.y c.block_size-width.result.1 _ c.block_size-width.ensures.height c.requires.high
    (c.requires.whole ∙ ap (λ (n : ℕ). n * rows) (sym c.band_size-columns.ensures.columns))

pub returns-clause-inside : goal.returns-clause-inside
returns-clause-inside c =
    read_sample c.args.shape c.args.mb c.args.band c.args.block.now c.read_values.new.values c.put_rows.new.out c.args.x c.args.y c.band_size-columns.result.0 c.block_size-width.result.0 c.block_size-width.result.1
    c.band_size-columns.ensures.columns c.block_size-width.ensures.width c.block_size-width.ensures.height c.read_values.ensures (c.read_values.auto.values ∙ c.requires.values) c.put_rows.ensures.inside

pub returns-clause-outside : goal.returns-clause-outside
returns-clause-outside c = λ i j wide out.
    let narrow : i < c.band_size-columns.result.0 = omega (arith, wide, c.band_size-columns.ensures.columns) in
    kept_sample c.args.shape c.args.band c.put_rows.new.out c.args.out.now c.band_size-columns.result.0 i j c.band_size-columns.ensures.columns
    (c.put_rows.ensures.outside i j narrow
    (beside_block (band_columns c.args.shape c.args.band) (band_rows c.args.shape c.args.band) c.args.x c.args.y i j c.block_size-width.result.0 c.block_size-width.result.1
    c.block_size-width.ensures.width c.block_size-width.ensures.height out))
