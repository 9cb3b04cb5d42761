use Rattle.std.proofs.Common.{◌-◌, suc}
use Rattle.codec_terms.specs.BlockDecisions.{decisions}
use Rattle.block_coder.proofs.Parts.{part_ending-continues}
use Rattle.block_coder.proofs.partly.PartlyCoded.codeword.Goals as goal

pub flushed-requires : goal.flushed-requires
flushed-requires c =
    (decisions c.requires.of.0 (c.args.self.now.planes - suc c.args.ending), part_ending-continues c.requires.of.0 c.args.self.now c.requires.of.1 c.args.ending c.requires.within _ c.self.view_is c.index.result.now c.index.ensures c.deref.result.now c.deref.ensures.value)

pub returns : goal.returns
returns c = λ b h.
    c.flushed.ensures (decisions b (c.args.self.now.planes - suc c.args.ending))
    (part_ending-continues b c.args.self.now h c.args.ending c.requires.within _ c.self.view_is c.index.result.now c.index.ensures c.deref.result.now c.deref.ensures.value)
