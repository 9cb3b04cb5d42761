use Rattle.std.proofs.Common.{arith}
use Rattle.block_reading.specs.Known.{area_of}
use Rattle.block_reading.proofs.Fields.{field-samples}
use Rattle.block_reading.proofs.Cleaned.{left-bits}
use Rattle.block_reading.proofs.cleanup.left_in.Goals as goal

pub returns : goal.returns
returns c = λ k h j q.
    left-bits (area_of c.args.field.now) c.args.w c.requires k c.args.room.now c.args.field.now.samples.now
    (λ i r. field-samples c.args.field.now (omega arith) (omega arith) c.args.field.now.all c.args.w i c.requires r) (omega arith) (omega arith) h j q
