use Rattle.std.proofs.Common.{sym, ◌∙◌}
use Rattle.block_passes.proofs.Cleaned.{run-quiet}
use Rattle.block_reading.specs.Scan.{block_at, walk_of}
use Rattle.block_reading.specs.Known.{area_of}
use Rattle.block_reading.proofs.Cleaned.{all-left, four-left, not-run}
use Rattle.block_reading.proofs.cleanup.is_run.Goals as goal

pub returns-then-all-eq15 : goal.returns-then-all-eq15
returns-then-all-eq15 c = λ k h left.
    let a = area_of c.args.field.now in
    let all = c.if-all-eq15.true in
    c.are_quiet.ensures k h (four-left a c.args.w c.args.c k c.args.left c.requires.c left all)
    ∙ sym (run-quiet (block_at a) c.args.w c.args.c (walk_of k) (all-left a c.args.w c.args.c k c.args.left c.requires.c left all))

pub returns-else-all-eq15 : goal.returns-else-all-eq15
returns-else-all-eq15 c = λ k h left.
    sym (not-run (area_of c.args.field.now) c.args.w c.args.c k c.args.left c.requires.c left (λ e. absurd (c.if-all-eq15.false e)))
