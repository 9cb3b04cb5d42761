use Rattle.block_coder.proofs.Kept.{endings-long, length-is}
use Rattle.block_coder.proofs.coded.Coded.length.Goals as goal

pub bounds-as_slice-ending : goal.bounds-as_slice-ending
bounds-as_slice-ending c = rw c.as_slice.ensures (endings-long c.requires.of.0 c.args.self.now c.requires.of.1 c.args.ending c.requires.within)

pub returns : goal.returns
returns c = λ b h. rw c.as_slice.ensures (length-is b c.args.self.now h c.args.ending c.requires.within _)
