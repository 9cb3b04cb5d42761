use Rattle.block_packets.proofs.Areas.{picture-band}
use Rattle.block_packets.proofs.area.band_in.Goals as goal

pub returns-clause-picture : goal.returns-clause-picture
returns-clause-picture c =
    picture-band c.args.precinct.component c.args.precinct.resolution c.args.i c.resolution_band.result c.requires.component c.requires.resolution c.requires.inside c.resolution_band.ensures.band
