-- Files that calls leave alone.
use Rattle.std.proofs.Common.{◌≡◌, ℕ, List, sym, ◌∙◌, subst, refl}
use Rattle.disk_terms.specs.Disk.{CrashedBetween, Disk, History, IsChanged, IsRested, IsUntouchedBeside, MayLeave, Trail, at_rest}
use Rattle.disk_terms.proofs.Rest.{at_rest-only}
use Rattle.disk_terms.proofs.Moments.{HasPassed-same, HasPassed-changed, HasPassed-further, HasPassed-weaker, HasPassed-newest, HasPassed-until}

-- the files beside those touched have these trails
abbrev Kept : {File : Type 0} → (File → Type 0) → Disk File → Disk File → Type 0
Kept {File} touched first disk = (file : File) → ¬ touched file → disk file ≡ first file

pub IsUntouchedBeside-same : {File : Type 0} (touched : File → Type 0) (now : History File) → IsUntouchedBeside touched now now
IsUntouchedBeside-same touched now = record { passed = HasPassed-same (Kept touched now.newest) now }

pub IsUntouchedBeside-rested : {File : Type 0} (touched : File → Type 0) (before now : History File) → IsRested before now → IsUntouchedBeside touched before now
IsUntouchedBeside-rested touched before now rested = subst (IsUntouchedBeside touched before) (sym rested) (IsUntouchedBeside-same touched before)

-- a call on a file that is among those touched
pub IsUntouchedBeside-changed : {File : Type 0} (touched : File → Type 0) (file : File) (trail : Trail) (before now : History File) → touched file
    → IsChanged file trail before now → IsUntouchedBeside touched before now
IsUntouchedBeside-changed touched file trail before now among change = record {
  passed = HasPassed-changed (Kept touched before.newest) file trail before now change
      (λ other beside. change.others other (λ same. beside (subst touched (sym same) among)));
}

-- the trails of the files beside those touched
pub IsUntouchedBeside-newest : {File : Type 0} (touched : File → Type 0) (before now : History File) → IsUntouchedBeside touched before now
    → (file : File) → ¬ touched file → now.newest file ≡ before.newest file
IsUntouchedBeside-newest touched before now untouched = HasPassed-newest (Kept touched before.newest) before now untouched.passed (λ _ _. refl)

pub IsUntouchedBeside-further : {File : Type 0} (touched : File → Type 0) (before middle now : History File) → IsUntouchedBeside touched before middle
    → IsUntouchedBeside touched middle now → IsUntouchedBeside touched before now
IsUntouchedBeside-further touched before middle now first then =
    let same = IsUntouchedBeside-newest touched before middle first in
    record {
      passed = HasPassed-further (Kept touched before.newest) before middle now first.passed
          (HasPassed-weaker (Kept touched middle.newest) (Kept touched before.newest) middle now (λ disk kept file beside. kept file beside ∙ same file beside) then.passed);
    }

-- more files are touched
pub IsUntouchedBeside-wider : {File : Type 0} (touched more : File → Type 0) (before now : History File) → ((file : File) → touched file → more file)
    → IsUntouchedBeside touched before now → IsUntouchedBeside more before now
IsUntouchedBeside-wider touched more before now wider untouched = record {
  passed = HasPassed-weaker (Kept touched before.newest) (Kept more before.newest) before now
      (λ disk kept file beside. kept file (λ among. beside (wider file among))) untouched.passed;
}

-- Of a file beside those touched a crash leaves what one could leave before.
pub IsUntouchedBeside-left : {File : Type 0} (touched : File → Type 0) (before now : History File) → IsUntouchedBeside touched before now
    → (image : File → List ℕ) → CrashedBetween before now image → (file : File) → ¬ touched file → MayLeave (before.newest file) (image file)
IsUntouchedBeside-left touched before now untouched image crashed file beside =
    let passed = HasPassed-until (Kept touched before.newest) before crashed.moment now untouched.passed crashed.begun crashed.ended in
    let same = HasPassed-newest (Kept touched before.newest) before crashed.moment passed (λ _ _. refl) in
    subst (λ trail. MayLeave trail (image file)) (same file beside) (crashed.left file)

-- What stood on the disk stands on it in each image.
pub IsUntouchedBeside-at_rest : {File : Type 0} (touched : File → Type 0) (before now : History File) → IsUntouchedBeside touched before now
    → (image : File → List ℕ) → CrashedBetween before now image → (file : File) → ¬ touched file → (bytes : List ℕ) → before.newest file ≡ at_rest bytes
    → image file ≡ bytes
IsUntouchedBeside-at_rest touched before now untouched image crashed file beside bytes rests =
    at_rest-only bytes (image file) (subst (λ trail. MayLeave trail (image file)) rests
    (IsUntouchedBeside-left touched before now untouched image crashed file beside))

-- one call more, on a file that is among those touched
pub IsUntouchedBeside-changed_on : {File : Type 0} (touched : File → Type 0) (file : File) (trail : Trail) (before middle now : History File)
    → IsChanged file trail middle now → touched file → IsUntouchedBeside touched before middle → IsUntouchedBeside touched before now
IsUntouchedBeside-changed_on touched file trail before middle now change among first =
    IsUntouchedBeside-further touched before middle now first (IsUntouchedBeside-changed touched file trail middle now among change)

-- one call more that changes nothing
pub IsUntouchedBeside-rested_on : {File : Type 0} (touched : File → Type 0) (before middle now : History File)
    → IsRested middle now → IsUntouchedBeside touched before middle → IsUntouchedBeside touched before now
IsUntouchedBeside-rested_on touched before middle now rested first = subst (IsUntouchedBeside touched before) (sym rested) first

-- for calls one behind another
pub ruleset untouched_steps = (IsUntouchedBeside-same, IsUntouchedBeside-rested, IsUntouchedBeside-changed, IsUntouchedBeside-rested_on, IsUntouchedBeside-changed_on, IsUntouchedBeside-further)
