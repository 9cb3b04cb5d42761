use Rattle.std.proofs.Common.{refl, arith, ◌∙◌}
use Rattle.block_sets.specs.Places.{column_at, row_at}
use Rattle.block_reading.specs.Known.{area_of}
use Rattle.block_reading.proofs.Cells.{room-visited, decoder-visited}
use Rattle.block_reading.proofs.sample.visit.Goals as goal

pub returns : goal.returns
returns c = λ d k h some.
    let a = area_of c.args.field.now in
    record {
      decoder = decoder-visited a (column_at c.args.w c.args.i) (row_at c.args.w c.args.i) k ∙ h.decoder;
      room = room-visited a c.args.w c.args.i c.requires.w c.requires.i some c.args.room.now _ k (omega arith) refl refl refl refl refl h.room;
    }
