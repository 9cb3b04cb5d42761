use Rattle.wave_laws.specs.Rows.{high_factor}
use Rattle.dwt97.proofs.Finished.{IsReady-high, low_made, high_made}
use Rattle.dwt97.proofs.finish.finish_high_row.Goals as goal

pub returns-clause-low : goal.returns-clause-low
returns-clause-low c = λ bound.
    low_made 250000000 high_factor c.args.row.now _ _ _ (IsReady-high c.args.row.now bound) c.take_high_row.ensures.even c.take_high_row.ensures.odd c.across.ensures.low

pub returns-clause-high : goal.returns-clause-high
returns-clause-high c = λ bound.
    high_made 250000000 high_factor c.args.row.now _ _ _ (IsReady-high c.args.row.now bound) c.take_high_row.ensures.even c.take_high_row.ensures.odd c.across.ensures.high
