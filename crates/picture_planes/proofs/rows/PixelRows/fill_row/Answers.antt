use Rattle.std.proofs.Common.{arith}
use Rattle.codec_terms.specs.Colour.{x_weights, y_weights, z_weights}
use Rattle.picture_planes.proofs.Codes.{All-codes, held}
use Rattle.picture_planes.proofs.RowByRow.{planes_of-codes}
use Rattle.picture_planes.proofs.rows.PixelRows.fill_row.Goals as goal

pub components_row-requires-clause-x_codes : goal.components_row-requires-clause-x_codes
components_row-requires-clause-x_codes c = All-codes c.args.tables.now x_weights c.args.rgb.now _ (held _ _ _ _ _ c.deref.ensures.value (omega arith) c.to_xyz_row.ensures.x)

pub components_row-requires-clause-y_codes : goal.components_row-requires-clause-y_codes
components_row-requires-clause-y_codes c = All-codes c.args.tables.now y_weights c.args.rgb.now _ (held _ _ _ _ _ c.deref-2.ensures.value (omega arith) c.to_xyz_row.ensures.y)

pub components_row-requires-clause-z_codes : goal.components_row-requires-clause-z_codes
components_row-requires-clause-z_codes c = All-codes c.args.tables.now z_weights c.args.rgb.now _ (held _ _ _ _ _ c.deref-3.ensures.value (omega arith) c.to_xyz_row.ensures.z)

pub returns-clause-planes : goal.returns-clause-planes
returns-clause-planes c =
    planes_of-codes c.args.tables.now c.args.rgb.now _ _ _ _ c.components_row.ensures (held _ _ _ _ _ c.deref.ensures.value (omega arith) c.to_xyz_row.ensures.x)
    (held _ _ _ _ _ c.deref-2.ensures.value (omega arith) c.to_xyz_row.ensures.y) (held _ _ _ _ _ c.deref-3.ensures.value (omega arith) c.to_xyz_row.ensures.z)
