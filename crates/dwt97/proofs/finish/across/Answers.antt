use Rattle.dwt97.proofs.Room.{IsLine-steps, low_clamped, high_clamped}
use Rattle.dwt97.proofs.finish.across.Goals as goal

pub returns-clause-low : goal.returns-clause-low
returns-clause-low c = λ p q.
    low_clamped c.args.even.now c.args.odd.now _ _ _
    (IsLine-steps c.args.even.now c.args.odd.now _ _ _ _ c.requires.least c.requires.most p q
    c.first_across.ensures c.second_across.ensures c.third_across.ensures c.fourth_across.ensures)
    c.clamp_low.ensures

pub returns-clause-high : goal.returns-clause-high
returns-clause-high c = λ p q.
    high_clamped c.args.even.now c.args.odd.now _ _ _
    (IsLine-steps c.args.even.now c.args.odd.now _ _ _ _ c.requires.least c.requires.most p q
    c.first_across.ensures c.second_across.ensures c.third_across.ensures c.fourth_across.ensures)
    c.clamp_high.ensures
