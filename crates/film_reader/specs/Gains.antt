-- The plain values of three numbers.
use Rattle.film_project.specs.Facts.{GainFacts}
use Rattle.film_reader.specs.declared.gains.RawGain.{RawGain}

abbrev pub raw_facts : RawGain → GainFacts
raw_facts raw = record { from = raw.from; to = raw.to; gain = raw.gain }
