-- The clip that is found is the last one that covers each frame up to the next change.
use Rattle.std.proofs.Common.{◌≤◌, sym, ap, ◌∙◌, arith}
use Rattle.std.specs.Option.{option_copied}
use Rattle.film_timeline.proofs.Covering.{covers_run, next_cells, all_cells}
use Rattle.film_timeline.proofs.timeline.cells.Goals as goal

pub push_shown-requires-clause-covers : goal.push_shown-requires-clause-covers
push_shown-requires-clause-covers c =
    covers_run c.as_slice-clips.result.now (option_copied c.as_ref.result) c.loop-f.f c.next_change-until.result
    (sym (c.as_ref.ensures.value ∙ c.find_last-shown.ensures)) c.next_change-until.ensures.steady

pub loop-f-preserved : goal.loop-f-preserved
loop-f-preserved c =
    let order : c.loop-f.f ≤ c.next_change-until.result = omega (arith, c.next_change-until.ensures.later) in (
      next_cells c.as_slice-clips.result.now (option_copied c.as_ref.result) c.loop-f.f c.next_change-until.result
          c.loop-f.cells.items c.push_shown.new.cells.items order (sym (c.as_ref.ensures.value ∙ c.find_last-shown.ensures)) c.next_change-until.ensures.steady
          c.loop-f.invariant.0 c.in_ok-push_shown.ensures,
      c.next_change-until.ensures.no_later,
    )

pub returns : goal.returns
returns c =
    c.from.ensures ∙ c.loop-f.invariant.0
    ∙ all_cells c.args.project.now c.as_slice-clips.result.now c.loop-f.f (c.as_slice-clips.ensures ∙ ap (λ p. p.picture) c.project.view_is)
    (omega (arith, c.loop-f.invariant.1, c.loop-f-test.false) ∙ ap (λ p. p.frames) c.project.view_is)
