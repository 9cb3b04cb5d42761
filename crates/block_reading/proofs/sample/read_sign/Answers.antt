use Rattle.std.proofs.Common.{ap, ◌∙◌}
use Rattle.std.specs.Prelude.{not}
use Rattle.std.specs.Bool.{beq}
use Rattle.codec_terms.specs.Contexts.{SignContext}
use Rattle.codec_terms.specs.BlockReading.{behind_bit}
use Rattle.block_words.proofs.Steps.{other_way, sign-small, sign_context-word}
use Rattle.block_sets.specs.Places.{column_at, row_at}
use Rattle.block_passes.proofs.Bits.{sample-column, sample-row}
use Rattle.block_reading.specs.Scan.{block_at}
use Rattle.block_reading.specs.Known.{area_of}
use Rattle.block_reading.proofs.Cells.{bit-known, known-behind, behind-significant, sign_read-is, decoder-with_sign}
use Rattle.block_reading.proofs.sample.read_sign.Goals as goal

pub bit-bit-requires : goal.bit-bit-requires
bit-bit-requires c = sign-small _ _ _ c.sign_context-context.ensures.context

pub returns : goal.returns
returns c = λ k h some none.
    let a = area_of c.args.field.now in
    let p = c.args.field.now.plane in
    let x = column_at c.args.w c.args.i in
    let y = row_at c.args.w c.args.i in
    let context = c.sign_context-context.result.0 in
    let flips = c.sign_context-context.result.1 in
    let bit = c.bit-bit.result in
    let negative = not (beq flips bit) in
    let word = rw (← c.place_of.ensures) at (h.room.words x y (sample-column (block_at a) c.args.w c.args.i some) (sample-row (block_at a) c.args.w c.args.i some)) in
    let sign = sign_context-word a.width k.significant k.negative x y _ word in
    let the_context = c.sign_context-context.ensures.context ∙ ap (λ (s : SignContext). s.context) sign in
    let the_flips = c.sign_context-context.ensures.flips ∙ ap (λ (s : SignContext). s.flips) sign in
    let the_bit = bit-known a _ _ k context bit c.bit-bit.ensures.bit h in
    let behind = known-behind a _ _ _ k context c.bit-bit.ensures.after h in
    rw (sign_read-is a p x y k context flips bit negative the_context the_flips the_bit (other_way flips bit))
    (record {
      decoder = decoder-with_sign a p x y negative (behind_bit context k) ∙ behind.decoder;
      room = c.set_sample.ensures (behind_bit context k) behind.room some (behind-significant a k context x y ∙ none);
    })
