-- The laws of a header's bits.
use Rattle.codec_laws.proofs.PackedBits.{IsAhead-packed, IsAhead-bit, header_end-is}
use Rattle.codec_laws.proofs.packets.packed_bits_laws.Goals as goal

pub returns-clause-begin : goal.returns-clause-begin
returns-clause-begin c = IsAhead-packed

pub returns-clause-bit : goal.returns-clause-bit
returns-clause-bit c = IsAhead-bit

pub returns-clause-end : goal.returns-clause-end
returns-clause-end c = header_end-is
