use Rattle.std.proofs.Common.{sym, subst, All}
use Rattle.codec_laws.specs.Bounds.{IsClamped}
use Rattle.wave_laws.specs.Rows.{low_factor, scaled_row}
use Rattle.wave_level.proofs.Limits.{All-high_half}
use Rattle.wave_level.proofs.rows.low_row.Goals as goal

pub quantise-requires-clause-bounds : goal.quantise-requires-clause-bounds
quantise-requires-clause-bounds c = subst (All IsClamped) (sym (c.finish_low_row.ensures.high c.requires.bounded)) (All-high_half (scaled_row low_factor c.args.row.now))
