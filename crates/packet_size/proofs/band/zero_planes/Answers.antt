use Rattle.std.proofs.Common.{◌∙◌, arith}
use Rattle.std.proofs.lemmas.List.{length-set}
use Rattle.codec_terms.specs.PacketHeader.{missing_planes}
use Rattle.packet_size.specs.Sizes.{block_of}
use Rattle.packet_size.proofs.Building.{filled-more, filled-all}
use Rattle.packet_size.proofs.band.zero_planes.Goals as goal

pub loop-at-preserved : goal.loop-at-preserved
loop-at-preserved c =
    let l = c.loop-at in
    let i = l.invariant in
    record {
      size = length-set l.leaves l.at c.missing_planes.result ∙ i.size;
      done = filled-more (λ b. missing_planes (block_of b)) l.leaves c.args.blocks.now l.at c.missing_planes.result _ (omega (arith, c.loop-at-test.true, c.requires, i.size)) c.loop-at-test.true c.missing_planes.ensures i.done;
    }

pub returns : goal.returns
returns c =
    let l = c.loop-at in
    filled-all (λ b. missing_planes (block_of b)) l.leaves c.args.blocks.now l.at (omega (arith, c.loop-at-test.false)) l.invariant.done
