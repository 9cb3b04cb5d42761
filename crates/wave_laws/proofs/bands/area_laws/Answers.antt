-- The laws of sizes.
use Rattle.wave_laws.proofs.SubBands.{low_area-start, low_area-more, IsGridOf-band_grid, IsGridOf-area_after}
use Rattle.wave_laws.proofs.bands.area_laws.Goals as goal

pub returns-clause-start : goal.returns-clause-start
returns-clause-start c = low_area-start

pub returns-clause-next : goal.returns-clause-next
returns-clause-next c = low_area-more

pub returns-clause-bands : goal.returns-clause-bands
returns-clause-bands c = IsGridOf-band_grid

pub returns-clause-areas : goal.returns-clause-areas
returns-clause-areas c = IsGridOf-area_after
