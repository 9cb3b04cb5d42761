use Rattle.std.proofs.Common.{◌≡◌, ap, arith}
use Rattle.film_plan.specs.declared.job.Plan.{Plan}
use Rattle.make_engine.specs.Package.{HasSound, IsSoundFile}
use Rattle.mast_world.proofs.Kept.{beside_kept_wider}
use Rattle.mast_world.specs.Changes.{Only}
use Rattle.mast_world.specs.declared.volume.FileId.TheVariants.{Sound}
use Rattle.make_engine.proofs.engine.write_sound_file.Goals as goal

pub returns-clause-beside : goal.returns-clause-beside
returns-clause-beside g c =
    let volume = g.V.Volume in
    let project = c.args.plan.now.project in
    let same : c.plan.inside.0.0.channels ≡ project.channels = ap (λ (p : Plan). p.project.channels) c.plan.view_is in
    let has : HasSound project = omega (arith, same, c.if-plan-eq0.false) in
    beside_kept_wider (Only (Sound 1)) (IsSoundFile project) volume.tells volume.reads volume.put volume.faults volume.history
    c.args.volume.now c.write_sound.new.volume (λ file is. (has, is)) c.write_sound.ensures.beside
