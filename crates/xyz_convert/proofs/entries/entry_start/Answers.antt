use Rattle.std.proofs.Common.{◌-◌, ◌*◌, ◌^◌, ◌<◌, sym, ◌∙◌, arith, mod-eq_of_lt}
use Rattle.xyz_convert.proofs.Codes.{entry_start-fine, entry_start-coarse}
use Rattle.xyz_convert.proofs.entries.entry_start.Goals as goal

pub returns-then-at-lt-FINE-clause-start : goal.returns-then-at-lt-FINE-clause-start
returns-then-at-lt-FINE-clause-start c = sym (entry_start-fine c.args.at c.if-at-lt-FINE.true)

pub returns-else-at-lt-FINE-clause-start : goal.returns-else-at-lt-FINE-clause-start
returns-else-at-lt-FINE-clause-start c =
    mod-eq_of_lt (let small : (c.args.at - 2 ^ 16) * 2 ^ 8 < 2 ^ 32 = omega arith in small) ∙ sym (entry_start-coarse c.args.at c.if-at-lt-FINE.false)
