use Rattle.wave_level.proofs.Limits.{even_bounded, odd_bounded}
use Rattle.wave_level.proofs.Taken.{none_taken, more_made, pair_done}
use Rattle.wave_level.proofs.Whole.{whole_low, whole_hl, whole_lh, whole_hh}
use Rattle.wave_level.proofs.laws.pair_laws.Goals as goal

pub returns-clause-begun : goal.returns-clause-begun
returns-clause-begun c = none_taken

pub returns-clause-made : goal.returns-clause-made
returns-clause-made c = more_made

pub returns-clause-done : goal.returns-clause-done
returns-clause-done c = pair_done

pub returns-clause-even : goal.returns-clause-even
returns-clause-even c = even_bounded

pub returns-clause-odd : goal.returns-clause-odd
returns-clause-odd c = odd_bounded

pub returns-clause-low : goal.returns-clause-low
returns-clause-low c = whole_low

pub returns-clause-hl : goal.returns-clause-hl
returns-clause-hl c = whole_hl

pub returns-clause-lh : goal.returns-clause-lh
returns-clause-lh c = whole_lh

pub returns-clause-hh : goal.returns-clause-hh
returns-clause-hh c = whole_hh
