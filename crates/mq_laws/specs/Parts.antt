-- The part of the interval that a decision keeps.
use Rattle.std.specs.Prelude.{ℕ, ◌-◌, Bool, not, cond, nat_lt}
use Rattle.codec_terms.specs.Mq.{Registers, lower_part, upper_part}

-- whether it is the lower one, of width qe
unfoldable pub lower_kept : Bool → ℕ → ℕ → Bool
lower_kept m qe a = cond m (nat_lt (a - qe) qe) (not (nat_lt (a - qe) qe))

unfoldable pub part_kept : Bool → ℕ → Registers → Registers
part_kept m qe r = cond (lower_kept m qe r.a) (lower_part qe r) (upper_part qe r)
