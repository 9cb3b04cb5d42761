-- What the plan's reading found of the files of sound is there when the package is made.
use Rattle.std.proofs.Common.{sym, subst}
use Rattle.mast_world.specs.Content.{Files}
use Rattle.pcm_mix.specs.Mix.{AreSoundsThere}
use Rattle.engine_cases.proofs.runs.make.Goals as goal

pub make_alone-made-requires : goal.make_alone-made-requires
make_alone-made-requires g c = record {
  there = λ tells.
      subst (λ (files : Files). AreSoundsThere files c.in-Ok.plan.project) (sym c.read_plan.ensures.kept.same_files)
      (c.in-Ok.ensures.sounds tells);
}
