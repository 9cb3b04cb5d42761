use Rattle.std.proofs.Common.{◌≡◌, ℕ, ◌+◌, ◌*◌, ◌%◌, ◌^◌, refl, ap, ◌∙◌, arith, length, get_or, set}
use Rattle.codec_terms.specs.BlockReading.{known_magnitude}
use Rattle.block_sets.specs.Places.{column_at, row_at}
use Rattle.block_reading.specs.Known.{area_of}
use Rattle.block_reading.proofs.Cells.{known-behind, bit-known}
use Rattle.block_reading.proofs.Refined.{added, known-refined}
use Rattle.block_reading.proofs.refinement.refine.Goals as goal

pub returns : goal.returns
returns c = λ k h some small.
    let a = area_of c.args.field.now in
    let p = c.args.field.now.plane in
    let w = c.args.w in
    let i = c.args.i in
    let context = c.context_of-context.result in
    let cells = c.args.room.now.magnitudes in
    let bit = c.bit-bit.result in
    let the_context = c.context_of-context.ensures.told k h.room some in
    let the_bit = bit-known a _ _ k context bit c.bit-bit.ensures.bit h in
    let size : length c.args.room.now.magnitudes ≡ 1024 = omega arith in
    let m = h.room.magnitudes w i c.requires.w c.requires.i some in
    let n = (get_or cells c.cell_of-cell.result 0 + c.from.result * 2 ^ p % 4294967296) % 4294967296 in
    let value = ap (λ (j : ℕ). (get_or cells j 0 + c.from.result * 2 ^ p % 4294967296) % 4294967296) c.cell_of-cell.ensures
    ∙ (ap (λ (j : ℕ). (j + c.from.result * 2 ^ p % 4294967296) % 4294967296) m
    ∙ (added (known_magnitude a k (column_at w i) (row_at w i)) p c.from.result bit c.from.ensures small ∙ rw the_bit refl)) in
    rw (← the_context)
    (known-refined a w i c.requires.w c.requires.i some p _ c.args.room.now _ k context n size refl refl refl
    (ap (λ (j : ℕ). set cells j n) c.cell_of-cell.ensures) refl value
    (known-behind a _ _ _ k context c.bit-bit.ensures.after h))
