use Rattle.std.proofs.Common.{◌≡◌, ◌+◌, suc, ◌∙◌, arith}
use Rattle.std.specs.Prelude.{◌==◌, ◌/◌, ◌^◌}
use Rattle.codec_terms.specs.BlockReading.{known_magnitude, refinement_context}
use Rattle.block_words.proofs.Steps.{refine_context-word}
use Rattle.block_sets.specs.Places.{column_at, row_at}
use Rattle.block_passes.proofs.Bits.{sample-column, sample-row}
use Rattle.block_reading.specs.Scan.{block_at}
use Rattle.block_reading.specs.Known.{area_of}
use Rattle.block_reading.proofs.Refined.{refine-small}
use Rattle.block_reading.proofs.refinement.context_of.Goals as goal

pub returns-clause-told : goal.returns-clause-told
unfolding refinement_context
returns-clause-told c = λ k h some.
    let a = area_of c.args.field.now in
    let p = c.args.field.now.plane in
    let w = c.args.w in
    let i = c.args.i in
    let x = column_at w i in
    let y = row_at w i in
    let word = h.words x y (sample-column (block_at a) w i some) (sample-row (block_at a) w i some) in
    let next : c.args.field.now.plane + 1 ≡ suc c.args.field.now.plane = omega arith in
    c.refine_context.ensures
    ∙ rw (c.place_of.ensures, c.cell_of.ensures, next, h.magnitudes w i c.requires.w c.requires.i some)
    (refine_context-word a.width k.significant k.negative x y _ word (known_magnitude a k x y / 2 ^ suc p == 1))

pub returns-clause-small : goal.returns-clause-small
returns-clause-small c = refine-small _ _ _ c.refine_context.ensures
