use Rattle.std.proofs.Common.{arith}
use Rattle.codec_terms.specs.TagTree.{new_node}
use Rattle.packet_size.proofs.Building.{filled-more, filled-all}
use Rattle.packet_size.proofs.build.leaves_of.Goals as goal

pub loop-at-preserved : goal.loop-at-preserved
loop-at-preserved c =
    let l = c.loop-at in
    filled-more new_node l.leaves c.args.values.now l.at c.new.result 0 (omega (arith, c.loop-at-test.true, c.requires)) c.loop-at-test.true c.new.ensures l.invariant

pub returns : goal.returns
returns c =
    let l = c.loop-at in
    filled-all new_node l.leaves c.args.values.now l.at (omega (arith, c.loop-at-test.false)) l.invariant
