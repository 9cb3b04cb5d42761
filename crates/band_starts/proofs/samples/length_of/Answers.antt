use Rattle.band_starts.proofs.Starts.{length_small, product_within}
use Rattle.band_starts.proofs.samples.length_of.Goals as goal

pub returns-clause-within : goal.returns-clause-within
returns-clause-within c =
    product_within _ _ _ _ _ c.band_size-columns.ensures.columns c.band_size-columns.ensures.rows
    (length_small c.args.shape c.args.band.component c.args.band.level c.args.kind c.requires.least c.requires.greatest)
