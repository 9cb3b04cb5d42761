use Rattle.std.proofs.Common.{ap}
use Rattle.codec_terms.specs.Precincts.{BlockArea}
use Rattle.stream_survey.proofs.BandShapes.{small-area}
use Rattle.stream_survey.proofs.shapes.band_shape.Goals as goal

pub returns-clause-small : goal.returns-clause-small
returns-clause-small c =
    small-area c.args.head.now.shape c.args.band c.args.precinct _ _ _
    (ap (λ (a : BlockArea). a.columns) c.blocks_of-area.ensures) (ap (λ (a : BlockArea). a.rows) c.blocks_of-area.ensures)
