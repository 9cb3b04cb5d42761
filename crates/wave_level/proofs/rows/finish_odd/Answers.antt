use Rattle.std.proofs.Common.{◌+◌, ◌-◌, ◌*◌, ◌/◌, arith}
use Rattle.wave_laws.specs.Rows.{high_factor, scaled_row, low_half, high_half}
use Rattle.codec_terms.specs.declared.picture.BandKind.TheVariants.{LH, HH}
use Rattle.wave_level.specs.Parts.{band_at}
use Rattle.wave_level.proofs.Filled.{next_words}
use Rattle.wave_level.proofs.rows.finish_odd.Goals as goal

pub returns-clause-low : goal.returns-clause-low
returns-clause-low c =
    next_words (c.args.level.columns - c.args.level.columns / 2) c.args.k c.args.level.columns (2 * c.args.k + 1) _ (band_at c.args.level LH) c.band.result (λ row. low_half (scaled_row high_factor row))
    c.args.plane.now c.args.low_words.now c.high_row.new.low_words (omega arith) c.requires.low (omega arith) c.band.ensures c.high_row.ensures.low

pub returns-clause-high : goal.returns-clause-high
returns-clause-high c =
    next_words (c.args.level.columns / 2) c.args.k c.args.level.columns (2 * c.args.k + 1) _ (band_at c.args.level HH) c.band-2.result (λ row. high_half (scaled_row high_factor row))
    c.args.plane.now c.args.high_words.now c.high_row.new.high_words (omega arith) c.requires.high (omega arith) c.band-2.ensures c.high_row.ensures.high
