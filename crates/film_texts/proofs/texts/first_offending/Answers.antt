use Rattle.std.proofs.Common.{◌≡◌, ◌∙◌, sym, arith, true, false, length}
use Rattle.film_project.specs.Texts as spec
use Rattle.film_project.proofs.Walks.{first_place-next, first_place-here}
use Rattle.film_texts.proofs.texts.first_offending.Goals as goal

pub loop-index-preserved : goal.loop-index-preserved
loop-index-preserved c =
    let e : spec.offends c.args.rule c.args.text.now c.loop-index.index ≡ false = sym c.offends.ensures ∙ c.if-offends.false in
    c.loop-index.invariant ∙ first_place-next _ c.loop-index.index (length c.args.text.now) (omega arith) e

pub returns-then-offends : goal.returns-then-offends
returns-then-offends c =
    let e : spec.offends c.args.rule c.args.text.now c.loop-index.index ≡ true = sym c.offends.ensures ∙ c.if-offends.true in
    sym (c.loop-index.invariant ∙ first_place-here _ c.loop-index.index (length c.args.text.now) (omega arith) e)
