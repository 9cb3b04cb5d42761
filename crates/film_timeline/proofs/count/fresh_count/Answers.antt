use Rattle.std.proofs.Common.{◌+◌, ◌∙◌, cond, length, take, ap, sym, arith}
use Rattle.film_timeline.proofs.Fresh.{fresh_length}
use Rattle.film_timeline.specs.Timeline.{fresh_cells}
use Rattle.film_timeline.proofs.count.fresh_count.Goals as goal
use Rattle.film_timeline.proofs.count.fresh_count.Goals.{then-not-is_repeat, else-not-is_repeat}

pub loop-f-preserved : goal.loop-f-preserved
loop-f-preserved c =
    let more = fresh_length c.args.cells.now c.loop-f.f c.is_repeat.result (omega (arith, c.loop-f-test.true, c.loop-f.auto.f-end)) c.is_repeat.ensures in
    elim c.if-not-is_repeat.branch [
      | then-not-is_repeat w ↦ (
        w.count-is ∙ ap (λ n. n + 1) c.loop-f.invariant.0 ∙ sym (more ∙ ap (λ t. length (fresh_cells (take c.loop-f.f c.args.cells.now)) + cond t 0 1) w.if-not-is_repeat.true),
        omega (arith, w.count-is, c.loop-f.invariant.1),
      )
      | else-not-is_repeat w ↦ (
        w.count-is ∙ c.loop-f.invariant.0 ∙ sym (more ∙ ap (λ t. length (fresh_cells (take c.loop-f.f c.args.cells.now)) + cond t 0 1) w.if-not-is_repeat.false ∙ omega arith),
        omega (arith, w.count-is, c.loop-f.invariant.1),
      )
    ]
