use Rattle.picture_sets.proofs.block.split.Goals as goal

pub returns : goal.returns
returns c = λ b narrow low whole square.
    let sets = c.split_block.ensures b narrow low whole square in
    let count = c.plane_count.ensures.count b narrow low sets in
    record {
      sets = sets;
      planes = count;
      few = c.plane_count.ensures.most;
    }
