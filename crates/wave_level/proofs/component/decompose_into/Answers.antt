use Rattle.std.proofs.Common.{arith}
use Rattle.wave_level.specs.Component.{level_values}
use Rattle.wave_level.proofs.Sizes.{four_parts}
use Rattle.wave_level.proofs.Levels.{two_signed}
use Rattle.wave_level.proofs.component.decompose_into.Goals as goal

pub split_at_mut-hl-requires : goal.split_at_mut-hl-requires
split_at_mut-hl-requires c = rw c.low_rows.ensures (omega (arith, four_parts c.args.level.columns c.args.level.rows))

pub split_at_mut-lh-requires : goal.split_at_mut-lh-requires
split_at_mut-lh-requires c =
    let behind = rw c.low_rows.ensures at c.split_at_mut-hl.ensures.back_len in
    rw c.low_columns.ensures (omega (arith, four_parts c.args.level.columns c.args.level.rows, behind))

pub decompose-requires-clause-hh : goal.decompose-requires-clause-hh
decompose-requires-clause-hh c =
    let behind = rw c.low_rows.ensures at c.split_at_mut-hl.ensures.back_len in
    let last = rw c.low_columns.ensures at c.split_at_mut-lh.ensures.back_len in
    omega (arith, four_parts c.args.level.columns c.args.level.rows, behind, last)

pub returns-clause-words : goal.returns-clause-words
unfolding level_values
returns-clause-words c = two_signed _ _ _ _ c.decompose.ensures.hl (two_signed _ _ _ _ c.decompose.ensures.lh c.decompose.ensures.hh)
