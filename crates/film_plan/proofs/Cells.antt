-- What a project says of its cells.
use Rattle.std.proofs.Common.{◌≡◌, length}
use Rattle.std.proofs.lemmas.List.FromFn.{length-map-range_with_len}
use Rattle.film_project.specs.Facts.{ProjectFacts}
use Rattle.film_timeline.specs.Timeline.{cell_at, cells_of}

-- each frame has a cell
pub length-cells_of : (project : ProjectFacts) → length (cells_of project) ≡ project.frames
length-cells_of project = length-map-range_with_len (cell_at project.picture) 0 project.frames
