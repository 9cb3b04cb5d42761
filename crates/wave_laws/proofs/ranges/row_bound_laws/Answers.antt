-- The bounds of rows after each step.
use Rattle.wave_laws.proofs.RowBounds.{rows_of, first_rows, second_rows, third_rows, fourth_rows, All-low_rows, All-high_rows, All-columns_transformed}
use Rattle.wave_laws.proofs.ranges.row_bound_laws.Goals as goal

pub returns-clause-first : goal.returns-clause-first
returns-clause-first c = λ m columns n rows i big two grid parity. first_rows m columns rows i (rows_of m columns n rows big two grid) parity

pub returns-clause-second : goal.returns-clause-second
returns-clause-second c = λ m columns n rows i big two grid parity. second_rows m columns rows i (rows_of m columns n rows big two grid) parity

pub returns-clause-third : goal.returns-clause-third
returns-clause-third c = λ m columns n rows i big two grid parity. third_rows m columns rows i (rows_of m columns n rows big two grid) parity

pub returns-clause-fourth : goal.returns-clause-fourth
returns-clause-fourth c = λ m columns n rows i big two grid parity. fourth_rows m columns rows i (rows_of m columns n rows big two grid) parity

pub returns-clause-low : goal.returns-clause-low
returns-clause-low c = λ m columns n rows big two grid. All-low_rows m columns rows (rows_of m columns n rows big two grid)

pub returns-clause-high : goal.returns-clause-high
returns-clause-high c = λ m columns n rows big two grid. All-high_rows m columns rows (rows_of m columns n rows big two grid)

pub returns-clause-both : goal.returns-clause-both
returns-clause-both c = λ m columns n rows big two grid. All-columns_transformed m columns rows (rows_of m columns n rows big two grid)
