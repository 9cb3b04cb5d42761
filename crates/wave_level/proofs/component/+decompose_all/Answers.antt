use Rattle.std.proofs.Common.{◌-◌, arith, rules, sym, ◌∙◌}
use Rattle.codec_terms.specs.Grid.{grid_of}
use Rattle.wave_level.proofs.Sizes.{deep_enough, two_at_least, room_here, room_behind}
use Rattle.wave_level.proofs.Limits.{grid_clamped}
use Rattle.wave_level.proofs.Levels.{two_signed, next_values, lowest_values, values_last, values_more}
use Rattle.wave_level.proofs.component.+decompose_all.Goals as goal

pub split_at_mut-low-requires : goal.split_at_mut-low-requires
split_at_mut-low-requires t c =
    rw (c.low_rows.ensures, c.low_columns.ensures) (omega (arith, room_here (5 - c.args.level.number) c.args.level.columns c.args.level.rows, c.requires.room))

pub decompose_into-requires-clause-columns : goal.decompose_into-requires-clause-columns
decompose_into-requires-clause-columns t c = two_at_least (5 - c.args.level.number) c.args.level.columns c.requires.columns

pub decompose_into-requires-clause-least : goal.decompose_into-requires-clause-least
decompose_into-requires-clause-least t c = two_at_least (5 - c.args.level.number) c.args.level.rows c.requires.rows

pub decompose_all-requires : goal.decompose_all-requires
decompose_all-requires t c =
    let front = rw (c.low_rows.ensures, c.low_columns.ensures) at c.split_at_mut-low.ensures.front_len in
    let back = rw (c.low_rows.ensures, c.low_columns.ensures) at c.split_at_mut-low.ensures.back_len in
    let words = rw (c.low_rows.ensures, c.low_columns.ensures) at c.split_at_mut-low_words.ensures.front_len in
    let n = c.next.ensures in (
      search rules,
      (
        omega arith,
        (
          omega arith,
          (
            deep_enough c.args.level.number _ c.args.level.columns _ c.if-level-lt5.true n.number n.columns c.requires.columns,
            (
              deep_enough c.args.level.number _ c.args.level.rows _ c.if-level-lt5.true n.number n.rows c.requires.rows,
              (
                rw n.rows (omega arith),
                (
                  rw (n.columns, n.rows) (omega (arith, front)),
                  (
                    c.decompose_into.ensures.clamped,
                    (
                      rw n.columns (omega arith),
                      (
                        rw (n.number, n.columns, n.rows) (omega (arith, back, room_behind c.args.level.number c.args.level.columns c.args.level.rows c.if-level-lt5.true)),
                        rw (n.columns, n.rows) (omega (arith, words)),
                      ),
                    ),
                  ),
                ),
              ),
            ),
          ),
        ),
      ),
    )

pub returns-then-level-lt5 : goal.returns-then-level-lt5
returns-then-level-lt5 t c =
    let level = c.args.level in
    let n = c.next.ensures in
    let area = grid_of level.columns level.rows c.args.plane.now in
    two_signed c.decompose_all.new.words c.decompose_into.new.words _ _
    (c.decompose_all.ensures
    ∙ next_values level.component _ level.number _ level.columns _ level.rows _ area c.decompose_into.new.low n.component n.number n.columns n.rows
    (grid_clamped level.columns level.rows c.args.plane.now c.requires.whole c.requires.clamped) c.decompose_into.ensures.low)
    c.decompose_into.ensures.words
    ∙ sym (values_more level.component level.number area c.requires.first c.if-level-lt5.true)

pub returns-else-level-lt5 : goal.returns-else-level-lt5
returns-else-level-lt5 t c =
    let level = c.args.level in
    let area = grid_of level.columns level.rows c.args.plane.now in
    two_signed c.quantise.new.out c.decompose_into.new.words _ _
    (c.quantise.ensures.values ∙ lowest_values level.component level.number c.band.result area c.decompose_into.new.low c.band.ensures c.decompose_into.ensures.low) c.decompose_into.ensures.words
    ∙ sym (values_last level.component level.number area c.if-level-lt5.false c.requires.last)
