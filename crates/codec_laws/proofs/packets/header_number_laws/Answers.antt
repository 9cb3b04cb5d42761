-- The laws of a header's numbers.
use Rattle.codec_laws.proofs.HeaderNumbers.{number_read-is, pass_count_read-is, size_read-is}
use Rattle.codec_laws.proofs.packets.header_number_laws.Goals as goal

pub returns-clause-numbers : goal.returns-clause-numbers
returns-clause-numbers c = number_read-is

pub returns-clause-passes : goal.returns-clause-passes
returns-clause-passes c = pass_count_read-is

pub returns-clause-lengths : goal.returns-clause-lengths
returns-clause-lengths c = size_read-is
