use Rattle.std.proofs.Common.{sym, arith}
use Rattle.ppm_head.proofs.Parts.{gap_len-more, gap_len-none, gap_len-past}
use Rattle.ppm_head.proofs.tokens.gap_len.Goals as goal

pub loop-at-preserved : goal.loop-at-preserved
loop-at-preserved c =
    omega (arith, gap_len-more c.args.bytes.now c.loop-at.at c.loop-at.in_comment c.in-Some.inside (omega arith) (sym c.in-Some.ensures), c.loop-at.invariant)

pub returns-in_default-clause-len : goal.returns-in_default-clause-len
returns-in_default-clause-len c =
    omega (arith, gap_len-none c.args.bytes.now c.loop-at.at c.loop-at.in_comment (omega arith) (sym c.in_default.ensures), c.loop-at.invariant)

pub returns-clause-len : goal.returns-clause-len
returns-clause-len c =
    omega (arith, gap_len-past c.args.bytes.now c.loop-at.at c.loop-at.in_comment (omega arith), c.loop-at.invariant)
