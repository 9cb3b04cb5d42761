use Rattle.picture_sets.proofs.Rows.{start_is, start_same}
use Rattle.picture_sets.proofs.split.first_word.Goals as goal

pub returns-clause-within : goal.returns-clause-within
returns-clause-within c =
    start_is c.args.shape c.args.band c.args.x c.args.y _ c.band_size-columns.ensures.columns c.requires.column c.requires.row

pub returns-clause-place : goal.returns-clause-place
returns-clause-place c = start_same c.args.shape c.args.band c.args.x c.args.y _ c.band_size-columns.ensures.columns
