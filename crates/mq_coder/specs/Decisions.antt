-- Decisions as numbers.
use Rattle.std.specs.Prelude.{ℕ, ◌/◌, ◌%◌, ◌==◌}
use Rattle.codec_terms.specs.Mq.{Decision}

-- twice the context, and one more where the bit is 1
abbrev pub decision_of : ℕ → Decision
decision_of n = record { context = n / 2; bit = n % 2 == 1 }
