use Rattle.std.proofs.Common.{◌≤◌, subst, sym}
use Rattle.film_project.specs.Rules.{IsProject}
use Rattle.frame_values.proofs.Limits.{AreLimits, are_limits}
use Rattle.mast_base.specs.declared.limits.Limits.{Limits}
use Rattle.frame_maker.proofs.encoding.params_of.Goals as goal

pub invariant_of-result : goal.invariant_of-result
invariant_of-result c =
    let rules : IsProject c.args.project.now = subst IsProject c.project.view_is c.project.invariant in
    let limits : AreLimits c.args.project.now = are_limits c.args.project.now rules in
    record {
      least_width = c.project.invariant.least_width;
      greatest_width = c.project.invariant.most_width;
      least_height = c.project.invariant.least_height;
      greatest_height = c.project.invariant.most_height;
      least_power = c.project.invariant.least_power;
      greatest_power = c.project.invariant.most_power;
      least_frame = subst (λ (l : Limits). 26041 ≤ l.frame) (sym c.requires) limits.least_frame;
      greatest_frame = subst (λ (l : Limits). l.frame ≤ 1302083) (sym c.requires) limits.greatest_frame;
      least_component = subst (λ (l : Limits). 20833 ≤ l.component) (sym c.requires) limits.least_component;
      greatest_component = subst (λ (l : Limits). l.component ≤ 1041666) (sym c.requires) limits.greatest_component;
    }
