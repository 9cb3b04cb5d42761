use Rattle.std.proofs.Common.{◌≡◌, arith}
use Rattle.block_sets.specs.Rebuilt.{block_of}
use Rattle.block_coder.proofs.Codes.{block-small}
use Rattle.block_coder.proofs.Parts.{part-started}
use Rattle.block_coder.proofs.partly.PartlyCoded.start.Goals as goal

pub returns-clause-of : goal.returns-clause-of
returns-clause-of c =
    let h = c.requires in
    part-started c.ending_laws.ensures.now (block_of c.args.block.now) _ h.count c.clear.ensures.items
    (λ p above. c.lower_plane_laws.ensures.none (block_of c.args.block.now) p h.of.whole (block-small c.args.block.now h) above)
