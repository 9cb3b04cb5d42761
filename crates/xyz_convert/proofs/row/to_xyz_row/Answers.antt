use Rattle.std.proofs.Common.{arith}
use Rattle.codec_terms.specs.Colour.{x_weights, y_weights, z_weights}
use Rattle.xyz_convert.proofs.Planes.{xyz_plane-looked_up}
use Rattle.xyz_convert.proofs.row.to_xyz_row.Goals as goal

pub returns-clause-x : goal.returns-clause-x
returns-clause-x c =
    xyz_plane-looked_up c.args.tables.now x_weights c.component_row.new.row c.args.rgb.now c.colour_row.new.row c.colour_row-2.new.row c.colour_row-3.new.row (omega arith)
    (record { light = λ k inside. c.colour_row.ensures.light k (omega arith) }) (record { light = λ k inside. c.colour_row-2.ensures.light k (omega arith) })
    (record { light = λ k inside. c.colour_row-3.ensures.light k (omega arith) }) c.component_row.ensures

pub returns-clause-y : goal.returns-clause-y
returns-clause-y c =
    xyz_plane-looked_up c.args.tables.now y_weights c.component_row-2.new.row c.args.rgb.now c.colour_row.new.row c.colour_row-2.new.row c.colour_row-3.new.row (omega arith)
    (record { light = λ k inside. c.colour_row.ensures.light k (omega arith) }) (record { light = λ k inside. c.colour_row-2.ensures.light k (omega arith) })
    (record { light = λ k inside. c.colour_row-3.ensures.light k (omega arith) }) c.component_row-2.ensures

pub returns-clause-z : goal.returns-clause-z
returns-clause-z c =
    xyz_plane-looked_up c.args.tables.now z_weights c.component_row-3.new.row c.args.rgb.now c.colour_row.new.row c.colour_row-2.new.row c.colour_row-3.new.row (omega arith)
    (record { light = λ k inside. c.colour_row.ensures.light k (omega arith) }) (record { light = λ k inside. c.colour_row-2.ensures.light k (omega arith) })
    (record { light = λ k inside. c.colour_row-3.ensures.light k (omega arith) }) c.component_row-3.ensures
