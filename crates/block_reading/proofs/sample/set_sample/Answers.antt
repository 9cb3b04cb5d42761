use Rattle.std.proofs.Common.{◌≡◌, ℕ, ◌*◌, ◌%◌, ◌^◌, refl, ap, arith, set}
use Rattle.std.proofs.lemmas.Nat.{pow_below}
use Rattle.block_reading.specs.Known.{area_of}
use Rattle.block_reading.proofs.Cells.{room-with_sign}
use Rattle.block_reading.proofs.sample.set_sample.Goals as goal

pub returns : goal.returns
returns c = λ k h some none.
    let p = c.args.field.now.plane in
    let power : 1 * 2 ^ c.args.field.now.plane % 4294967296 ≡ 2 ^ c.args.field.now.plane = omega (arith, pow_below p 32 (omega arith)) in
    room-with_sign (area_of c.args.field.now) c.args.w c.args.i c.requires.w c.requires.i some p
    c.args.room.now _ k c.args.negative (1 * 2 ^ p % 4294967296) (omega arith) (omega arith) (omega arith) (omega arith) (omega arith) (omega arith)
    power (rw (← c.place_of.ensures, ← c.from.ensures) c.mark.ensures) refl refl
    (ap (λ (n : ℕ). set c.args.room.now.magnitudes n (1 * 2 ^ p % 4294967296)) c.cell_of-cell.ensures)
    (ap (λ (n : ℕ). set c.args.room.now.negative n c.args.negative) c.cell_of-cell.ensures) none h
