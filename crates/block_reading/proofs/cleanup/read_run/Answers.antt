use Rattle.std.proofs.Common.{◌≡◌, ◌+◌, ◌-◌, refl, sym, ◌∙◌, arith}
use Rattle.codec_terms.specs.BlockReading.{behind_bit}
use Rattle.block_sets.specs.Places.{column_at, row_at}
use Rattle.block_reading.specs.Known.{area_of}
use Rattle.block_reading.proofs.Cells.{behind-significant}
use Rattle.block_reading.proofs.Cleaned.{run-none, run-some, rows-behind}
use Rattle.block_reading.proofs.cleanup.read_run.Goals as goal

pub returns-then-some : goal.returns-then-some
returns-then-some c = λ k h four unread.
    let a = area_of c.args.field.now in
    let p = c.args.field.now.plane in
    let w = c.args.w in
    let i = c.args.i in
    let first = c.number_of-first.result in
    let small = c.number_of-first.ensures.small in
    let x : column_at c.args.w (c.args.i + c.number_of-first.result) ≡ column_at c.args.w c.args.i = omega arith in
    let y : row_at c.args.w (c.args.i + c.number_of-first.result) ≡ row_at c.args.w c.args.i + c.number_of-first.result = omega arith in
    let k1 = behind_bit 17 k in
    let k2 = behind_bit 18 k1 in
    let k3 = behind_bit 18 k2 in
    let h1 = c.read_bit-some.ensures.told k h in
    let h2 = c.read_bit-high.ensures.told k1 h1 in
    let h3 = c.read_bit-low.ensures.told k2 h2 in
    let one = sym (c.read_bit-some.ensures.bit k h) ∙ c.if-some.true in
    let is = rw (c.read_bit-high.ensures.bit k1 h1, c.read_bit-low.ensures.bit k2 h2) at c.number_of-first.ensures.value in
    let none = behind-significant a k2 18 (column_at w (i + first)) (row_at w (i + first)) ∙ (behind-significant a k1 18 (column_at w (i + first)) (row_at w (i + first)) ∙ (behind-significant a k 17 (column_at w (i + first)) (row_at w (i + first)) ∙ unread first small)) in
    let signed = rw (x, y) at (c.read_sign.ensures k3 h3 (four first small) none) in
    rw (
      run-some a p (column_at w i) (row_at w i) k first (row_at w i + first + 1) (3 - first) one is small refl refl,
      ← (rows-behind a p w i c.requires.column four _ first (i + first + 1) (row_at w i + first + 1) (i + 4 - (i + first + 1)) (3 - first) small refl refl (omega arith) refl),
    )
    (c.clean_rest.ensures _ signed)

pub returns-else-some : goal.returns-else-some
returns-else-some c = λ k h four unread.
    let a = area_of c.args.field.now in
    let none = sym (c.read_bit-some.ensures.bit k h) ∙ c.if-some.false in
    rw (run-none a c.args.field.now.plane (column_at c.args.w c.args.i) (row_at c.args.w c.args.i) k none) (c.read_bit-some.ensures.told k h)
