use Rattle.std.proofs.Common.{◌^◌, ◌∙◌}
use Rattle.xyz_convert.specs.Entries.{light_of, least_above, entry_code, code_entries}
use Rattle.xyz_convert.proofs.Codes.{IsTable-list_of}
use Rattle.xyz_convert.proofs.tables.Tables.new.Goals as goal

pub code_table-requires-clause-thresholds : goal.code_table-requires-clause-thresholds
code_table-requires-clause-thresholds c =
    IsTable-list_of least_above 4096 c.deref.result.now (c.deref.ensures.value ∙ c.in_ok-above.ensures)

pub invariant_of-result : goal.invariant_of-result
invariant_of-result c =
    record {
      least_power = c.requires.least_power;
      greatest_power = c.requires.greatest_power;
      light = IsTable-list_of (light_of c.args.power) (2 ^ 16) c.in_ok-light.light.items c.in_ok-light.ensures;
      above = IsTable-list_of least_above 4096 c.in_ok-above.above.items c.in_ok-above.ensures;
      code = IsTable-list_of entry_code code_entries c.in_ok-code.code.items c.in_ok-code.ensures;
    }
