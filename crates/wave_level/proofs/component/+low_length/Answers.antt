use Rattle.std.proofs.Common.{sym}
use Rattle.wave_level.proofs.Sizes.{room_behind, room_last}
use Rattle.wave_level.proofs.component.+low_length.Goals as goal

pub returns-then-level-lt5-clause-length : goal.returns-then-level-lt5-clause-length
returns-then-level-lt5-clause-length t c =
    let n = c.next.ensures in
    let level = c.args.level in
    rw (c.low_length.ensures.length, n.number, n.columns, n.rows, c.low_rows.ensures, c.low_columns.ensures) (sym (room_behind level.number level.columns level.rows c.if-level-lt5.true))

pub returns-else-level-lt5-clause-length : goal.returns-else-level-lt5-clause-length
returns-else-level-lt5-clause-length t c =
    let level = c.args.level in
    rw (c.low_rows.ensures, c.low_columns.ensures) (sym (room_last level.number level.columns level.rows c.if-level-lt5.false))
