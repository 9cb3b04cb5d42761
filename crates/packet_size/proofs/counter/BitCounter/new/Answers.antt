use Rattle.std.proofs.Common.{refl}
use Rattle.codec_terms.specs.Bits.{low_bits}
use Rattle.packet_size.specs.Counting.{counted_into}
use Rattle.packet_size.proofs.counter.BitCounter.new.Goals as goal

pub returns : goal.returns
unfolding low_bits counted_into
returns c = refl
