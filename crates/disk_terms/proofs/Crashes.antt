-- What every crash between two moments leaves.
use Rattle.std.proofs.Common.{◌≡◌, inl, inr}
use Rattle.std.specs.Prelude.{⊤}
use Rattle.disk_terms.specs.Disk.{Disk, HasPassed, History, Image, IsChanged, IsImage, IsUntouchedBeside, MayLeave, Survives, Trail}
use Rattle.disk_terms.proofs.Moments.{HasPassed-same, HasPassed-changed, HasPassed-further, HasPassed-newest, HasPassed-until, IsSince-passed, IsSince-either}
use Rattle.disk_terms.proofs.Untouched.{IsUntouchedBeside-left}

-- each disk on the way leaves only images with P, and so did the first
pub Survives-passed : {File : Type 0} (P : Image File → Type 0) (before now : History File)
    → HasPassed (λ disk. (image : Image File) → IsImage disk image → P image) before now
    → ((image : Image File) → IsImage before.newest image → P image) → Survives P before now
Survives-passed {File} P before now passed first =
    let Q : Disk File → Type 0 = λ disk. (image : Image File) → IsImage disk image → P image in
    record {
      passed = IsSince-passed Q before now passed;
      each = λ image crashed. HasPassed-newest Q before crashed.moment
          (HasPassed-until Q before crashed.moment now passed crashed.begun crashed.ended) first image crashed.left;
    }

-- at one moment
pub Survives-same : {File : Type 0} (P : Image File → Type 0) (now : History File) → ((image : Image File) → IsImage now.newest image → P image) → Survives P now now
Survives-same {File} P now holds = Survives-passed P now now (HasPassed-same (λ disk. (image : Image File) → IsImage disk image → P image) now) holds

-- over a call before which and behind which each image has P
pub Survives-changed : {File : Type 0} (P : Image File → Type 0) (file : File) (trail : Trail) (before now : History File) → IsChanged file trail before now
    → ((image : Image File) → IsImage before.newest image → P image) → ((image : Image File) → IsImage now.newest image → P image) → Survives P before now
Survives-changed {File} P file trail before now change first then = Survives-passed P before now
    (HasPassed-changed (λ disk. (image : Image File) → IsImage disk image → P image) file trail before now change then) first

-- Calls after which P needs nothing of the files that they touched.
pub Survives-untouched : {File : Type 0} (P : Image File → Type 0) (touched : File → Type 0) (before now : History File) → IsUntouchedBeside touched before now
    → ((image : Image File) → ((file : File) → ¬ touched file → MayLeave (before.newest file) (image file)) → P image) → Survives P before now
Survives-untouched {File} P touched before now untouched holds = record {
  passed = IsSince-passed (λ disk. (file : File) → ¬ touched file → disk file ≡ before.newest file) before now untouched.passed;
  each = λ image crashed. holds image (IsUntouchedBeside-left touched before now untouched image crashed);
}

pub Survives-further : {File : Type 0} (P : Image File → Type 0) (before middle now : History File) → Survives P before middle → Survives P middle now → Survives P before now
Survives-further {File} P before middle now first then = record {
  passed = HasPassed-further (λ _. ⊤) before middle now first.passed then.passed;
  each = λ image crashed. elim (IsSince-either middle crashed.moment now then.passed crashed.ended) [
    | inl earlier ↦ first.each image (record { moment = crashed.moment; begun = crashed.begun; ended = earlier; left = crashed.left })
    | inr later ↦ then.each image (record { moment = crashed.moment; begun = later; ended = crashed.ended; left = crashed.left })
  ];
}

pub Survives-weaker : {File : Type 0} (P Q : Image File → Type 0) (before now : History File) → ((image : Image File) → P image → Q image) → Survives P before now → Survives Q before now
Survives-weaker P Q before now weaker survives = record { passed = survives.passed; each = λ image crashed. weaker image (survives.each image crashed) }

-- It holds now.
pub Survives-newest : {File : Type 0} (P : Image File → Type 0) (before now : History File) → Survives P before now → (image : Image File) → IsImage now.newest image → P image
Survives-newest P before now survives image left =
    survives.each image (record { moment = now; begun = survives.passed; ended = HasPassed-same (λ _. ⊤) now; left = left })
