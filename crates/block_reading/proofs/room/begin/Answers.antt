use Rattle.std.proofs.Common.{refl}
use Rattle.block_reading.proofs.Cells.{room-blank}
use Rattle.block_reading.proofs.room.begin.Goals as goal

pub returns : goal.returns
returns c = λ a codeword. room-blank a codeword _ refl refl refl refl refl
