use Rattle.std.proofs.Common.{arith}
use Rattle.band_starts.proofs.Starts.{start_of, end_of}
use Rattle.band_starts.proofs.samples.band_start.Goals as goal

pub overflow_add-result : goal.overflow_add-result
overflow_add-result c =
    omega (arith, end_of c.args.shape c.args.band _ _ _ c.requires c.from.ensures c.picture_area.ensures.area c.samples_before.ensures)

pub returns-clause-start : goal.returns-clause-start
returns-clause-start c = start_of c.args.shape c.args.band _ _ _ c.requires c.from.ensures c.picture_area.ensures.area c.samples_before.ensures

pub returns-clause-within : goal.returns-clause-within
returns-clause-within c = end_of c.args.shape c.args.band _ _ _ c.requires c.from.ensures c.picture_area.ensures.area c.samples_before.ensures
