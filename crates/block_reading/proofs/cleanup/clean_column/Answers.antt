use Rattle.std.proofs.Common.{◌+◌, ◌*◌, ◌-◌, sym, ◌∙◌, arith}
use Rattle.codec_terms.specs.BlockReading.{cleanup_at}
use Rattle.block_passes.proofs.Cleaned.{run-four, run-left}
use Rattle.block_reading.specs.Scan.{block_at, walk_of, bit_step}
use Rattle.block_reading.specs.Known.{area_of}
use Rattle.block_reading.proofs.Cleaned.{column-run, column-no_run, fold-four, left-unread}
use Rattle.block_reading.proofs.cleanup.clean_column.Goals as goal

pub returns-then-is_run : goal.returns-then-is_run
returns-then-is_run c = λ k h left.
    let a = area_of c.args.field.now in
    let p = c.args.field.now.plane in
    let run = sym (c.is_run.ensures k h.room left) ∙ c.if-is_run.true in
    let all = run-left (block_at a) c.args.w c.args.c (walk_of k) run in
    rw (column-run a p c.args.w k c.args.c run)
    (c.read_run.ensures k h (run-four (block_at a) c.args.w c.args.c (walk_of k) run) (λ r q. left-unread a p c.args.w k (4 * c.args.c + r) (all r q)))

pub returns-else-is_run : goal.returns-else-is_run
returns-else-is_run c = λ k h left.
    let a = area_of c.args.field.now in
    let p = c.args.field.now.plane in
    let run = sym (c.is_run.ensures k h.room left) ∙ c.if-is_run.false in
    rw (column-no_run a p c.args.w k c.args.c run, ← fold-four (bit_step (cleanup_at a p) a c.args.w) k (4 * c.args.c) (4 * c.args.c + 4 - 4 * c.args.c) (omega arith)) (c.clean_rest.ensures k h)
