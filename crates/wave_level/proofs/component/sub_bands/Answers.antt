use Rattle.std.proofs.Common.{◌-◌, ◌∙◌, ap}
use Rattle.codec_terms.specs.Grid.{grid_of}
use Rattle.wave_level.specs.declared.level.Level.{Level}
use Rattle.wave_level.specs.Component.{values_behind}
use Rattle.wave_level.proofs.Order.{component_values-is}
use Rattle.wave_level.proofs.component.sub_bands.Goals as goal

pub returns : goal.returns
returns c =
    c.decompose_all.ensures
    ∙ (ap (λ (l : Level). values_behind l.component (5 - l.number) (grid_of l.columns l.rows c.args.plane.now)) c.first_level-level.ensures
    ∙ component_values-is c.args.shape c.args.component c.args.plane.now c.requires.width c.requires.least c.requires.whole)
