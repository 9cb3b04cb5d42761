use Rattle.mq_coder.proofs.interval.+doubled.Given as goal

abbrev pub decreases-doubled : goal.decreases-doubled
decreases-doubled l = l.shift
