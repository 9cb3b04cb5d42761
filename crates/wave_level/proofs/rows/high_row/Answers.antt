use Rattle.std.proofs.Common.{sym, subst, All}
use Rattle.codec_laws.specs.Bounds.{IsClamped}
use Rattle.wave_laws.specs.Rows.{high_factor, scaled_row}
use Rattle.wave_level.proofs.Limits.{All-low_half, All-high_half}
use Rattle.wave_level.proofs.rows.high_row.Goals as goal

pub quantise-requires-clause-bounds : goal.quantise-requires-clause-bounds
quantise-requires-clause-bounds c = subst (All IsClamped) (sym (c.finish_high_row.ensures.low c.requires.bounded)) (All-low_half (scaled_row high_factor c.args.row.now))

pub quantise-requires-2-clause-bounds : goal.quantise-requires-2-clause-bounds
quantise-requires-2-clause-bounds c = subst (All IsClamped) (sym (c.finish_high_row.ensures.high c.requires.bounded)) (All-high_half (scaled_row high_factor c.args.row.now))
