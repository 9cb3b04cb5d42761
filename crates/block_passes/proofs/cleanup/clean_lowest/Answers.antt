use Rattle.std.proofs.Common.{◌≡◌, ◌<◌, ◌%◌, ◌∙◌, sym, arith}
use Rattle.std.specs.Int.{w64, trailing_zeros}
use Rattle.std.proofs.lemmas.Nat.Bits.{shr_and_one}
use Rattle.block_passes.proofs.Propagated.{lowest-small}
use Rattle.block_passes.proofs.cleanup.clean_lowest.Goals as goal

pub clean_run-requires-clause-run : goal.clean_run-requires-clause-run
clean_run-requires-clause-run c = sym (shr_and_one c.args.rest.runs (trailing_zeros w64 c.args.rest.left)) ∙ c.if-rest-i-eq1.true

pub clean_run-requires-clause-column : goal.clean_run-requires-clause-column
clean_run-requires-clause-column c =
    let fits : c.args.rest.left < 18446744073709551616 = omega arith in
    c.args.rest.columns (trailing_zeros w64 c.args.rest.left) (lowest-small c.args.rest.left c.requires.some fits)
    (sym (shr_and_one c.args.rest.runs (trailing_zeros w64 c.args.rest.left)) ∙ c.if-rest-i-eq1.true)

pub clean_run-requires-clause-room : goal.clean_run-requires-clause-room
clean_run-requires-clause-room c =
    let fits : c.args.rest.left < 18446744073709551616 = omega arith in
    let small = lowest-small c.args.rest.left c.requires.some fits in
    let column : trailing_zeros w64 c.args.rest.left % 4 ≡ 0 =
    c.args.rest.columns (trailing_zeros w64 c.args.rest.left) small
    (sym (shr_and_one c.args.rest.runs (trailing_zeros w64 c.args.rest.left)) ∙ c.if-rest-i-eq1.true) in
    omega (arith, small, column, c.requires.room)

pub returns-then-rest-i-eq1-clause-count : goal.returns-then-rest-i-eq1-clause-count
returns-then-rest-i-eq1-clause-count c =
    let fits : c.args.rest.left < 18446744073709551616 = omega arith in
    let small = lowest-small c.args.rest.left c.requires.some fits in
    let column : trailing_zeros w64 c.args.rest.left % 4 ≡ 0 =
    c.args.rest.columns (trailing_zeros w64 c.args.rest.left) small
    (sym (shr_and_one c.args.rest.runs (trailing_zeros w64 c.args.rest.left)) ∙ c.if-rest-i-eq1.true) in
    omega (arith, column, c.clean_run.ensures.behind, c.clean_run.ensures.count)
