use Rattle.block_coder.proofs.Parts.{part_length-is}
use Rattle.block_coder.proofs.partly.PartlyCoded.length.Goals as goal

pub returns : goal.returns
returns c = λ b h.
    part_length-is b c.args.self.now h c.args.ending c.requires.within _ c.self.view_is c.index.result.now c.index.ensures
