use Rattle.std.proofs.Common.{◌-◌, suc}
use Rattle.codec_terms.specs.BlockDecisions.{decisions}
use Rattle.block_coder.proofs.Kept.{endings-long, ending-continues}
use Rattle.block_coder.proofs.coded.Coded.codeword.Goals as goal

pub bounds-as_slice-ending : goal.bounds-as_slice-ending
bounds-as_slice-ending c = rw c.as_slice-2.ensures (endings-long c.requires.of.0 c.args.self.now c.requires.of.1 c.args.ending c.requires.within)

pub flushed-requires : goal.flushed-requires
flushed-requires c =
    (decisions c.requires.of.0 (c.args.self.now.planes - suc c.args.ending), rw (c.as_slice.ensures, c.as_slice-2.ensures) (ending-continues c.requires.of.0 c.args.self.now c.requires.of.1 c.args.ending c.requires.within _))

pub returns : goal.returns
returns c = λ b h.
    c.flushed.ensures _ (rw (c.as_slice.ensures, c.as_slice-2.ensures) (ending-continues b c.args.self.now h c.args.ending c.requires.within _))
