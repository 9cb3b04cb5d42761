use Rattle.std.proofs.Common.{◌+◌, arith}
use Rattle.block_sets.proofs.Unions.{first-of_plane, first-of_none}
use Rattle.block_sets.proofs.start.first_above.Goals as goal

pub returns-then-index-planes : goal.returns-then-index-planes
returns-then-index-planes c = λ b h.
    first-of_plane b c.args.planes.now h (omega (arith, h.width)) (omega (arith, h.height)) c.args.index (c.args.index + 1) c.unite_above.new.set _
    (omega arith) (omega arith) (c.unite_above.ensures b h) c.take_from.ensures

pub returns-else-index-planes : goal.returns-else-index-planes
returns-else-index-planes c = λ b h.
    first-of_none b c.args.planes.now h (omega (arith, h.width)) (omega (arith, h.height)) c.args.index (c.args.index + 1) c.unite_above.new.set
    (omega arith) (omega arith) (c.unite_above.ensures b h)
