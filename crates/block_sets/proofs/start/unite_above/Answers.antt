use Rattle.std.proofs.Common.{arith}
use Rattle.block_sets.proofs.Unions.{words-none, words-more, set-of_above}
use Rattle.block_sets.proofs.start.unite_above.Goals as goal

pub loop-p-init : goal.loop-p-init
loop-p-init c = λ b h. words-none b c.args.index

pub loop-p-preserved : goal.loop-p-preserved
loop-p-preserved c = λ b h.
    words-more b c.args.planes.now h (omega (arith, h.width)) (omega (arith, h.height)) c.args.index c.loop-p.p c.loop-p.set _ (omega arith) (omega arith)
    c.unite.ensures (c.loop-p.invariant b h)

pub returns : goal.returns
returns c = λ b h.
    set-of_above b c.args.planes.now h (omega (arith, h.width)) (omega (arith, h.height)) c.args.index c.loop-p.p c.loop-p.set (omega arith)
    (c.loop-p.invariant b h)
