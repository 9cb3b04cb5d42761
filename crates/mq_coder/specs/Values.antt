-- The value of an interval that a flush writes.
use Rattle.std.specs.Prelude.{ℕ, []}
use Rattle.codec_terms.specs.Mq.{bits_set}

abbrev pub flushed_value : ℕ → ℕ → ℕ
flushed_value a c = (bits_set (record { a = a; c = c; ct = 0; bytes = [] })).c
