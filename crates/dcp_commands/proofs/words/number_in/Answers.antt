use Rattle.std.proofs.Common.{◌≡◌, true, rules}
use Rattle.dcp_commands.specs.Words.{is_number}
use Rattle.dcp_commands.proofs.Numbers.{number_parsed}
use Rattle.dcp_commands.proofs.words.number_in.Goals as goal

pub returns-then-is_number : goal.returns-then-is_number
returns-then-is_number c =
    let is : is_number c.args.word.now ≡ true = search rules in
    search (rules, number_parsed c.args.word.now c.parse.result c.parse.ensures.value.0 is)
