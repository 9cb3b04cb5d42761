use Rattle.std.proofs.Common.{◌∙◌, arith}
use Rattle.std.proofs.lemmas.List.{length-set}
use Rattle.codec_terms.specs.PacketHeader.{first_layer}
use Rattle.packet_size.specs.Sizes.{block_of}
use Rattle.packet_size.proofs.Building.{filled-more, filled-all}
use Rattle.packet_size.proofs.band.first_layers.Goals as goal

pub loop-at-preserved : goal.loop-at-preserved
loop-at-preserved c =
    let l = c.loop-at in
    let i = l.invariant in
    record {
      size = length-set l.leaves l.at c.first_layer.result ∙ i.size;
      done = filled-more (λ b. first_layer (block_of b)) l.leaves c.args.blocks.now l.at c.first_layer.result _ (omega (arith, c.loop-at-test.true, c.requires, i.size)) c.loop-at-test.true c.first_layer.ensures i.done;
    }

pub returns : goal.returns
returns c =
    let l = c.loop-at in
    filled-all (λ b. first_layer (block_of b)) l.leaves c.args.blocks.now l.at (omega (arith, c.loop-at-test.false)) l.invariant.done
