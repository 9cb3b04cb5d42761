-- The laws of a packet's header.
use Rattle.packet_laws.proofs.HeadersReadBack.{included_read-is, blocks_read-is, band_read-is, bands_read-is}
use Rattle.packet_laws.proofs.packet_header_laws.Goals as goal

pub returns-clause-included : goal.returns-clause-included
returns-clause-included c = included_read-is

pub returns-clause-blocks : goal.returns-clause-blocks
returns-clause-blocks c = blocks_read-is

pub returns-clause-band : goal.returns-clause-band
returns-clause-band c = band_read-is

pub returns-clause-bands : goal.returns-clause-bands
returns-clause-bands c = bands_read-is
