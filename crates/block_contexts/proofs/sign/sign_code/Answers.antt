use Rattle.block_contexts.proofs.Tables.{signs-are}
use Rattle.block_contexts.proofs.Words.{sign_byte, sign_byte-below, horizontal_sign_of-byte, vertical_sign_of-byte}
use Rattle.block_contexts.proofs.sign.sign_code.Goals as goal

pub returns : goal.returns
returns c =
    rw (← (horizontal_sign_of-byte c.args.word), ← (vertical_sign_of-byte c.args.word))
    (signs-are (sign_byte c.args.word) (sign_byte-below c.args.word))
