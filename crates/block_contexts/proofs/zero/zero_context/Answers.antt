use Rattle.std.proofs.Common.{◌≡◌, ◌%◌, arith}
use Rattle.std.specs.Int.RustNames.{bit_and}
use Rattle.std.proofs.lemmas.Grind.{common_steps}
use Rattle.block_contexts.proofs.Words.{horizontal_of-byte, vertical_of-byte, diagonal_of-byte}
use Rattle.block_contexts.proofs.zero.zero_context.Goals as goal

pub returns : goal.returns
returns c =
    let low : bit_and c.args.word 255 ≡ c.args.word % 256 = grind (arith, common_steps) in
    let entry = c.zero_codes.ensures (c.args.word % 256) (omega arith) in
    let plain = rw (horizontal_of-byte c.args.word, vertical_of-byte c.args.word, diagonal_of-byte c.args.word) at entry in
    rw (low, plain) (omega arith)
