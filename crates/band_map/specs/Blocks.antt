-- What a grid of code-blocks says.
use Rattle.codec_terms.specs.Precincts.{BlockArea}
use Rattle.band_map.specs.declared.blocks.BlockGrid.{BlockGrid}

abbrev pub area_of : BlockGrid → BlockArea
area_of grid = record { x = grid.x; y = grid.y; columns = grid.columns; rows = grid.rows }
