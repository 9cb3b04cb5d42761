use Rattle.std.proofs.Common.{◌∙◌}
use Rattle.codec_terms.specs.BlockReading.{known_zero_context}
use Rattle.codec_laws.proofs.Contexts.{zero_context-below}
use Rattle.block_words.proofs.Steps.{zero_context-word}
use Rattle.block_sets.specs.Places.{column_at, row_at}
use Rattle.block_passes.proofs.Bits.{sample-column, sample-row}
use Rattle.block_passes.proofs.Quiet.{zero-entry-half}
use Rattle.block_reading.specs.Scan.{block_at}
use Rattle.block_reading.specs.Known.{area_of}
use Rattle.block_reading.proofs.sample.zero_context_at.Goals as goal

pub returns-clause-told : goal.returns-clause-told
unfolding known_zero_context
returns-clause-told c = λ k h some.
    let a = area_of c.args.field.now in
    let x = column_at c.args.w c.args.i in
    let y = row_at c.args.w c.args.i in
    let word = h.words x y (sample-column (block_at a) c.args.w c.args.i some) (sample-row (block_at a) c.args.w c.args.i some) in
    zero-entry-half c.args.field.now.zeros.now c.args.field.now.kind _ c.args.field.now.table.each
    ∙ rw c.place_of.ensures (zero_context-word a.width k.significant k.negative x y _ word a.kind)

pub returns-clause-small : goal.returns-clause-small
returns-clause-small c = rw (zero-entry-half c.args.field.now.zeros.now c.args.field.now.kind _ c.args.field.now.table.each) (zero_context-below _ _ _ _)
