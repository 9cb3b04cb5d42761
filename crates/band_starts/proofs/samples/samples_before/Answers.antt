use Rattle.band_starts.proofs.Starts.{HasBefore-HL, HasBefore-LH, HasBefore-HH}
use Rattle.band_starts.proofs.samples.samples_before.Goals as goal

pub returns-in-HL : goal.returns-in-HL
returns-in-HL c = HasBefore-HL c.args.shape c.args.band _ c.requires.least c.requires.greatest c.in-HL.is c.length_of-low.ensures.length

pub returns-in-LH : goal.returns-in-LH
returns-in-LH c = HasBefore-LH c.args.shape c.args.band _ _ c.requires.least c.requires.greatest c.in-LH.is c.length_of-low.ensures.length c.length_of.ensures.length

pub returns-in-HH : goal.returns-in-HH
returns-in-HH c =
    HasBefore-HH c.args.shape c.args.band _ _ _ c.requires.least c.requires.greatest c.in-HH.is c.length_of-low.ensures.length c.length_of-in-HH.ensures.length c.length_of-in-HH-2.ensures.length
