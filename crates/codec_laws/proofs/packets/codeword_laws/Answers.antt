-- The laws of the bytes of codewords and packets.
use Rattle.codec_terms.specs.Mq.{codeword}
use Rattle.codec_laws.proofs.Codewords.{IsClosed-codeword, IsClosed-flat_map, IsClosed-packed, HasNoMarker-precinct_packet}
use Rattle.codec_laws.proofs.packets.codeword_laws.Goals as goal

pub returns-clause-end : goal.returns-clause-end
returns-clause-end c = λ ds. (IsClosed-codeword ds).no_last_ff

pub returns-clause-codewords : goal.returns-clause-codewords
returns-clause-codewords c = λ dss. (IsClosed-flat_map codeword IsClosed-codeword dss).no_marker

pub returns-clause-header : goal.returns-clause-header
returns-clause-header c = λ bits. (IsClosed-packed bits).no_marker

pub returns-clause-packets : goal.returns-clause-packets
returns-clause-packets c = HasNoMarker-precinct_packet
