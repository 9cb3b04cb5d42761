use Rattle.std.proofs.Common.{reverse}
use Rattle.mq_coder.proofs.Coding.{masked-lower, masked-upper}
use Rattle.mq_coder.proofs.interval.part_of.Goals as goal
use Rattle.mq_coder.proofs.interval.part_of.Goals.{then-wider_by-is_mps, else-wider_by-is_mps}

pub returns : goal.returns
returns c =
    λ bytes.
    elim c.if-wider_by-is_mps.branch [
      | then-wider_by-is_mps w ↦
          masked-upper c.args.is_mps c.args.qe c.args.at.a c.args.at.c c.args.at.ct c.if-wider_by-is_mps.upper (reverse bytes)
          c.requires.qe c.requires.wide c.requires.narrow w.upper-is w.if-wider_by-is_mps.true
      | else-wider_by-is_mps w ↦
          masked-lower c.args.is_mps c.args.qe c.args.at.a c.args.at.c c.args.at.ct c.if-wider_by-is_mps.upper (reverse bytes)
          c.requires.qe c.requires.wide c.requires.narrow w.upper-is w.if-wider_by-is_mps.false
    ]
