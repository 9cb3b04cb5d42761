use Rattle.std.proofs.Common.{◌∙◌, ap, sym}
use Rattle.track_terms.specs.declared.set.SetRow.{SetRow}
use Rattle.track_terms.specs.declared.value.Value.TheVariants.{U8}
use Rattle.mxf_header.proofs.SetSteps.{items_in-kept, items_in-passed}
use Rattle.mxf_header.proofs.set.set_items.Goals as goal
use Rattle.mxf_header.proofs.set.set_items.Goals.{then-row-number+in_ok-value+in_ok-push, else-row-number}

pub loop-row-preserved : goal.loop-row-preserved
loop-row-preserved c =
    let none : SetRow = record { set = 0; tag = 0; value = U8 0 } in
    elim c.if-row-number.branch [
      | then-row-number+in_ok-value+in_ok-push w ↦
          ap (λ v. v.items) w.items-is
          ∙ items_in-kept c.args.facts.now c.args.number c.set_rows-row-items.result.now c.loop-row.row-index none
          c.loop-row-test.true w.in_ok-value.value c.loop-row.items.items w.push.new.self.items w.if-row-number.true
          w.in_ok-value.ensures c.loop-row.invariant w.in_ok-push.ensures.items
      | else-row-number w ↦
          ap (λ v. v.items) w.items-is
          ∙ c.loop-row.invariant
          ∙ sym (items_in-passed c.args.facts.now c.args.number c.set_rows-row-items.result.now c.loop-row.row-index none
          c.loop-row-test.true w.if-row-number.false)
    ]
