-- The laws of a row after each step, with its neighbours' numbers.
use Rattle.wave_laws.proofs.Rounds.{first_inner, first_last, second_top, second_inner, second_last, third_inner, third_last, fourth_top, fourth_inner, fourth_last}
use Rattle.wave_laws.proofs.rows.round_laws.Goals as goal

pub returns-clause-first_inner : goal.returns-clause-first_inner
returns-clause-first_inner c = first_inner

pub returns-clause-first_last : goal.returns-clause-first_last
returns-clause-first_last c = first_last

pub returns-clause-second_top : goal.returns-clause-second_top
returns-clause-second_top c = second_top

pub returns-clause-second_inner : goal.returns-clause-second_inner
returns-clause-second_inner c = second_inner

pub returns-clause-second_last : goal.returns-clause-second_last
returns-clause-second_last c = second_last

pub returns-clause-third_inner : goal.returns-clause-third_inner
returns-clause-third_inner c = third_inner

pub returns-clause-third_last : goal.returns-clause-third_last
returns-clause-third_last c = third_last

pub returns-clause-fourth_top : goal.returns-clause-fourth_top
returns-clause-fourth_top c = fourth_top

pub returns-clause-fourth_inner : goal.returns-clause-fourth_inner
returns-clause-fourth_inner c = fourth_inner

pub returns-clause-fourth_last : goal.returns-clause-fourth_last
returns-clause-fourth_last c = fourth_last
