-- A decision as one byte, and part of a column.
use Rattle.std.specs.Prelude.{ℕ, ◌/◌, ◌%◌, ◌==◌, List, map}
use Rattle.std.specs.List.{range_with_len}
use Rattle.codec_terms.specs.Mq.{Decision}
use Rattle.codec_terms.specs.Contexts.{Column}

-- twice the context, and the bit
abbrev pub decision_of : ℕ → Decision
decision_of code = record { context = code / 2; bit = code % 2 == 1 }

abbrev pub decisions_of : List ℕ → List Decision
decisions_of codes = map decision_of codes

-- n rows of column x from row y on
abbrev pub column_of : ℕ → ℕ → ℕ → Column
column_of x y n = record { x = x; rows = range_with_len y n }
