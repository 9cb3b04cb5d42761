use Rattle.std.proofs.Common.{◌∙◌, ap, sym}
use Rattle.mast_world.specs.Crash.{crash_image}
use Rattle.mast_world.proofs.CrashImages.{remains-as_before}
use Rattle.mast_world.proofs.crash.Remains.into_image.Goals as goal

pub returns-in-AsBefore-clause-image : goal.returns-in-AsBefore-clause-image
returns-in-AsBefore-clause-image c = λ log file were.
    c.front.ensures.front ∙ (remains-as_before log file c.args.self (rw c.in-AsBefore.is at were)
    ∙ sym (ap (λ image. crash_image image log file) c.in-AsBefore.is))
