use Rattle.std.proofs.Common.{[]}
use Rattle.codec_cases.proofs.Pauses.{start-coded, pauses}
use Rattle.codec_cases.proofs.codewords.ends_from_its_registers.Goals as goal

pub flushed-requires : goal.flushed-requires
flushed-requires g c = (
  [],
  pauses [] c.new-coder.result c.bytes.result.now c.ending-ending.result c.ending_laws.ensures.now
      (start-coded c.new-coder.result c.new-coder.ensures) c.bytes.ensures c.ending-ending.ensures,
)
