-- The decoder's registers, and doublings by a count.
use Rattle.std.specs.Prelude.{ℕ, zero, suc}
use Rattle.codec_terms.specs.Mq.{Reading, in_at_zero, read_on}
use Rattle.mq_coder.specs.declared.interval.Interval.{Interval}
use Rattle.mq_coder.specs.declared.source.Source.{Source}

abbrev pub reading_at : ℕ → ℕ → ℕ → Source → Reading
reading_at a c ct s = record { a = a; c = c; ct = ct; current = s.current; rest = s.rest.now }

abbrev pub reading_of : Interval → Source → Reading
reading_of at s = reading_at at.a at.c at.ct s

unfoldable pub read_doublings : ℕ → Reading → Reading
read_doublings zero r = r
read_doublings (suc n) r = read_doublings n (read_on (in_at_zero r))
