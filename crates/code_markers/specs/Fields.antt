-- What the kinds of fields stand for.
use Rattle.std.specs.Prelude.{ℕ, ◌+◌, List, [], ◌∷◌}
use Rattle.codec_terms.specs.MainReading.{FieldRule, fixed, within, any_value, guard_rule, step_rule}
use Rattle.code_markers.specs.declared.field.Field.{Field}
use Rattle.code_markers.specs.declared.field.Field.TheVariants.{U8, U16, U32, U16Within, U32Within, AnyU32, GuardBits, Step}

abbrev pub rule_of : Field → FieldRule
rule_of (U8 n) = fixed 1 n
rule_of (U16 n) = fixed 2 n
rule_of (U32 n) = fixed 4 n
rule_of (U16Within low high) = within 2 low high
rule_of (U32Within low high) = within 4 low high
rule_of AnyU32 = any_value 4
rule_of GuardBits = guard_rule
rule_of (Step guard_bits) = step_rule guard_bits

-- how many bytes they have together
abbrev pub sizes : List FieldRule → ℕ
sizes [] = 0
sizes (rule ∷ rules) = rule.size + sizes rules
