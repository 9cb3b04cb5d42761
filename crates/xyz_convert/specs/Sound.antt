-- What the tables keep.
use Rattle.std.specs.Prelude.{◌^◌, ◌≤◌}
use Rattle.xyz_convert.specs.Entries.{IsTable, light_of, least_above, entry_code, code_entries}
use Rattle.xyz_convert.specs.declared.tables.Tables.TheInside.{Inside}

-- each entry is the definition's value
pub record IsSound (tables : Inside) : Type 0 where
  pub least_power : 11 ≤ tables.power
  pub greatest_power : tables.power ≤ 13
  pub light : IsTable (light_of tables.power) (2 ^ 16) tables.light.items
  pub above : IsTable least_above 4096 tables.above.items
  pub code : IsTable entry_code code_entries tables.code.items
