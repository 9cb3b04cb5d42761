use Rattle.std.proofs.Common.{ap}
use Rattle.codec_terms.specs.Precincts.{BlockArea}
use Rattle.part_packets.proofs.Listed.{few-blocks}
use Rattle.part_packets.proofs.precinct.band_shape.Goals as goal

pub returns-clause-few : goal.returns-clause-few
returns-clause-few c =
    few-blocks c.args.head.now.shape c.args.band c.args.precinct _ _
    (ap (λ (a : BlockArea). a.columns) c.blocks_of-area.ensures) (ap (λ (a : BlockArea). a.rows) c.blocks_of-area.ensures)
