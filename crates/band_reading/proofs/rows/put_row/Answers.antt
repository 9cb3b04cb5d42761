use Rattle.std.proofs.Common.{◌≡◌, ap, length, arith}
use Rattle.band_reading.proofs.Puts.{beside_row}
use Rattle.band_reading.proofs.rows.put_row.Goals as goal

pub returns-clause-outside : goal.returns-clause-outside
returns-clause-outside c = λ i j wide out.
    let size : length c.copy_from_slice.new.self ≡ length c.args.row.now = ap length c.copy_from_slice.ensures.after in
    beside_row c.args.columns c.args.x c.args.y i j _ c.args.out.now c.copy_from_slice.new.self (omega arith) (omega arith) c.requires.bottom wide (λ same from here. out same from (omega arith))
