use Rattle.std.proofs.Common.{arith, refl}
use Rattle.band_starts.proofs.Members.{listed_at}
use Rattle.band_starts.proofs.places.band_at.Goals as goal

pub returns-in-0-clause-listed : goal.returns-in-0-clause-listed
returns-in-0-clause-listed c =
    listed_at _ c.args.place (record { component = omega arith; first = omega arith; last = omega arith; lowest = λ e. refl }) (omega arith)

pub returns-in_default-clause-listed : goal.returns-in_default-clause-listed
returns-in_default-clause-listed c =
    listed_at _ c.args.place
    (record { component = omega arith; first = omega arith; last = omega arith; lowest = λ e. absurd (c.kind_at.ensures.high e) })
    (omega (arith, c.kind_at.ensures.place))
