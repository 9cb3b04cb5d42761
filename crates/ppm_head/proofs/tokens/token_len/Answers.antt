use Rattle.std.proofs.Common.{sym, ◌∙◌, arith}
use Rattle.ppm_head.proofs.Parts.{token_len-more, token_len-none, token_len-past}
use Rattle.ppm_head.proofs.tokens.token_len.Goals as goal

pub loop-at-preserved : goal.loop-at-preserved
loop-at-preserved c =
    let more = token_len-more c.args.bytes.now c.loop-at.at (omega arith) (sym c.is_token_byte.ensures ∙ c.if-not-is_token_byte.false) in
    omega (arith, more, c.loop-at.invariant)

pub returns-then-not-is_token_byte-clause-len : goal.returns-then-not-is_token_byte-clause-len
returns-then-not-is_token_byte-clause-len c =
    let none = token_len-none c.args.bytes.now c.loop-at.at (omega arith) (sym c.is_token_byte.ensures ∙ c.if-not-is_token_byte.true) in
    omega (arith, none, c.loop-at.invariant)

pub returns-clause-len : goal.returns-clause-len
returns-clause-len c = omega (arith, token_len-past c.args.bytes.now c.loop-at.at (omega arith), c.loop-at.invariant)
