use Rattle.std.proofs.Common.{◌∙◌, ◌*◌, ℕ, ap}
use Rattle.codec_terms.specs.BlockDecisions.{zero_context_of, negatives}
use Rattle.block_words.proofs.Steps.{zero_context-word}
use Rattle.block_sets.specs.Places.{column_at, row_at}
use Rattle.block_passes.proofs.Bits.{sample-column, sample-row}
use Rattle.block_passes.proofs.Quiet.{zero-entry, zero-entry-small}
use Rattle.block_passes.proofs.sample.zero_code.Goals as goal

pub returns-clause-told : goal.returns-clause-told
unfolding zero_context_of
returns-clause-told c = λ b p v is h some.
    let x = column_at c.args.w c.args.i in
    let y = row_at c.args.w c.args.i in
    let word = h.sets.words x y (sample-column b c.args.w c.args.i some) (sample-row b c.args.w c.args.i some) in
    zero-entry c.args.plane.now.zeros.now c.args.plane.now.kind _ c.args.plane.now.table.each
    ∙ ap (λ (n : ℕ). 2 * n) (rw (c.place_of.ensures, is.kind) (zero_context-word b.width v.significant (negatives b) x y _ word b.kind))

pub returns-clause-small : goal.returns-clause-small
returns-clause-small c = zero-entry-small c.args.plane.now.zeros.now c.args.plane.now.kind _ c.args.plane.now.table.each
