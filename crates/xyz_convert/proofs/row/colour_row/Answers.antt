use Rattle.std.proofs.Common.{◌+◌, ◌*◌, ◌^◌, sym, subst, ◌∙◌}
use Rattle.xyz_convert.specs.Entries.{IsTable, light_of}
use Rattle.xyz_convert.specs.Samples.{sample_at}
use Rattle.xyz_convert.proofs.Planes.{light-most, sample-small}
use Rattle.xyz_convert.proofs.row.colour_row.Goals as goal

pub returns-clause-light : goal.returns-clause-light
returns-clause-light c =
    let table = subst (IsTable (light_of c.tables.inside.power) (2 ^ 16)) (sym c.deref.ensures.value) c.tables.invariant.light in
    let light : IsTable (light_of c.args.tables.now) (2 ^ 16) c.deref.result.now =
    subst (λ p. IsTable (light_of p) (2 ^ 16) c.deref.result.now) c.tables.view_is table in
    λ k inside.
    c.light_row.ensures k inside
    ∙ light.entry (sample_at c.args.rgb.now (6 * k + c.args.place)) (sample-small c.args.rgb.now (6 * k + c.args.place) c.type_inv.rgb)

pub returns-clause-most : goal.returns-clause-most
returns-clause-most c =
    let table = subst (IsTable (light_of c.tables.inside.power) (2 ^ 16)) (sym c.deref.ensures.value) c.tables.invariant.light in
    let is = c.tables.invariant in
    light-most c.tables.inside.power c.deref.result.now c.light_row.new.row (λ k. sample_at c.args.rgb.now (6 * k + c.args.place)) is.least_power is.greatest_power table
    (λ k inside. (sample-small c.args.rgb.now (6 * k + c.args.place) c.type_inv.rgb, c.light_row.ensures k inside))
