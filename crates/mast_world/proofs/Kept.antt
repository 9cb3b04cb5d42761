-- Steps behind one another.
use Rattle.std.proofs.Common.{◌≤◌, ℕ, ◌∙◌, List, refl, arith}
use Rattle.disk_terms.specs.Disk.{History}
use Rattle.disk_terms.proofs.Untouched.{IsUntouchedBeside-same, IsUntouchedBeside-further, IsUntouchedBeside-wider}
use Rattle.mast_world.specs.Changes.{IsSameBeside, IsSameSource}
use Rattle.mast_world.specs.Content.{Files}
use Rattle.mast_world.specs.Count.{HasRisen}
use Rattle.mast_world.specs.declared.volume.FileId.{FileId}

pub source_kept : {A : Type 0} (file : A → Files) (absent taken faults : A → ℕ) (a : A) → IsSameSource file absent taken faults a a
source_kept file absent taken faults a = record { same_files = refl; absent_kept = omega arith; taken_kept = omega arith; faults_kept = omega arith }

pub source_kept_on : {A : Type 0} (file : A → Files) (absent taken faults : A → ℕ) (a b c : A) → IsSameSource file absent taken faults a b → IsSameSource file absent taken faults b c → IsSameSource file absent taken faults a c
source_kept_on file absent taken faults a b c first then = record {
  same_files = then.same_files ∙ first.same_files;
  absent_kept = omega (arith, first.absent_kept, then.absent_kept);
  taken_kept = omega (arith, first.taken_kept, then.taken_kept);
  faults_kept = omega (arith, first.faults_kept, then.faults_kept);
}

pub beside_kept : {A : Type 0} (touched : FileId → Type 0) (tells : Type 0) (reads : A → FileId → List ℕ) (put : A → FileId → ℕ) (faults : A → ℕ) (history : A → History FileId) (a : A)
    → IsSameBeside touched tells reads put faults history a a
beside_kept touched tells reads put faults history a = record {
  same_reads = λ _ _. refl;
  same_put = λ _ _. refl;
  untouched = λ _. IsUntouchedBeside-same touched (history a);
  faults_kept = omega arith;
}

pub beside_kept_on : {A : Type 0} (touched : FileId → Type 0) (tells : Type 0) (reads : A → FileId → List ℕ) (put : A → FileId → ℕ) (faults : A → ℕ) (history : A → History FileId) (a b c : A)
    → IsSameBeside touched tells reads put faults history a b → IsSameBeside touched tells reads put faults history b c → IsSameBeside touched tells reads put faults history a c
beside_kept_on touched tells reads put faults history a b c first then = record {
  same_reads = λ file other. then.same_reads file other ∙ first.same_reads file other;
  same_put = λ file other. then.same_put file other ∙ first.same_put file other;
  untouched = λ t. IsUntouchedBeside-further touched (history a) (history b) (history c) (first.untouched t) (then.untouched t);
  faults_kept = omega (arith, first.faults_kept, then.faults_kept);
}

-- more files are touched
pub beside_kept_wider : {A : Type 0} (touched more : FileId → Type 0) (tells : Type 0) (reads : A → FileId → List ℕ) (put : A → FileId → ℕ) (faults : A → ℕ) (history : A → History FileId) (a b : A)
    → ((file : FileId) → touched file → more file) → IsSameBeside touched tells reads put faults history a b → IsSameBeside more tells reads put faults history a b
beside_kept_wider touched more tells reads put faults history a b wider kept = record {
  same_reads = λ file other. kept.same_reads file (λ t. other (wider file t));
  same_put = λ file other. kept.same_put file (λ t. other (wider file t));
  untouched = λ t. IsUntouchedBeside-wider touched more (history a) (history b) wider (kept.untouched t);
  faults_kept = kept.faults_kept;
}

-- a count that rose later rose on the whole, and so did one that rose earlier
pub risen_later : (before between now : ℕ) → before ≤ between → HasRisen between now → HasRisen before now
risen_later before between now kept risen = omega (arith, kept, risen)

pub risen_earlier : (before between now : ℕ) → between ≤ now → HasRisen before between → HasRisen before now
risen_earlier before between now kept risen = omega (arith, kept, risen)

pub risen_kept : (before now : ℕ) → HasRisen before now → before ≤ now
risen_kept before now risen = omega (arith, risen)
