use Rattle.std.proofs.Common.{◌∙◌, ◌<◌, ◌^◌, length, subst, sym}
use Rattle.std.specs.Prelude.{All}
use Rattle.klv_base.specs.Items.{set_value}
use Rattle.track_terms.proofs.HeadSizes.{values_small, set_small}
use Rattle.mxf_header.proofs.set.put_set.Goals as goal

pub write_set-requires-clause-values : goal.write_set-requires-clause-values
write_set-requires-clause-values c =
    subst (All (λ item. length item.value < 2 ^ 16)) (sym (c.deref.ensures.value ∙ c.in_ok-items.ensures))
    (values_small c.args.facts.now c.args.number c.requires)

pub write_set-requires-clause-whole : goal.write_set-requires-clause-whole
write_set-requires-clause-whole c =
    subst (λ items. length (set_value items) < 2 ^ 24) (sym (c.deref.ensures.value ∙ c.in_ok-items.ensures))
    (set_small c.args.facts.now c.args.number c.requires)
