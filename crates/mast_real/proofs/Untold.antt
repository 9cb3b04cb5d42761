-- Calls on a volume that tells no contents.
use Rattle.std.proofs.Common.{◌≡◌, ◌≤◌, ℕ, [], refl}
use Rattle.disk_terms.specs.Disk.{History}
use Rattle.mast_world.specs.Changes.{IsSameBeside}
use Rattle.mast_world.specs.declared.volume.FileId.{FileId}

pub untold_beside : {A : Type 0} (touched : FileId → Type 0) (put : A → FileId → ℕ) (faults : A → ℕ) (history : A → History FileId) (before now : A)
    → ((file : FileId) → ¬ touched file → put now file ≡ put before file) → faults before ≤ faults now → IsSameBeside touched ⊥ (λ _ _. []) put faults history before now
untold_beside touched put faults history before now same kept = record {
  same_reads = λ _ _. refl;
  same_put = same;
  untouched = λ told. absurd told;
  faults_kept = kept;
}
