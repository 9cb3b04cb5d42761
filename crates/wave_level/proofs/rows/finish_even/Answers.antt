use Rattle.std.proofs.Common.{◌*◌, ◌/◌, arith}
use Rattle.wave_laws.specs.Rows.{low_factor, scaled_row, high_half}
use Rattle.codec_terms.specs.declared.picture.BandKind.TheVariants.{HL}
use Rattle.wave_level.specs.Parts.{band_at}
use Rattle.wave_level.proofs.Filled.{next_words}
use Rattle.wave_level.proofs.rows.finish_even.Goals as goal

pub returns-clause-words : goal.returns-clause-words
returns-clause-words c =
    next_words (c.args.level.columns / 2) c.args.k c.args.level.columns (2 * c.args.k) _ (band_at c.args.level HL) c.band.result (λ row. high_half (scaled_row low_factor row))
    c.args.plane.now c.args.words.now c.low_row.new.words (omega arith) c.requires.words (omega arith) c.band.ensures c.low_row.ensures.high
