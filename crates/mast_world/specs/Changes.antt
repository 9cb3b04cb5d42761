-- What steps leave of a device as it was. A device is given by what it tells and counts, and by its states before and
-- now.
use Rattle.std.specs.Prelude.{◌≡◌, ℕ, ◌≤◌, List}
use Rattle.disk_terms.specs.Disk.{History, IsRested, IsUntouchedBeside}
use Rattle.mast_world.specs.Content.{Files}
use Rattle.mast_world.specs.declared.volume.FileId.{FileId}

-- a source has the same files, and none of its counts fell
pub record IsSameSource {A : Type 0} (file : A → Files) (absent taken faults : A → ℕ) (before now : A) : Type 0 where
  pub same_files : file now ≡ file before
  pub absent_kept : absent before ≤ absent now
  pub taken_kept : taken before ≤ taken now
  pub faults_kept : faults before ≤ faults now

-- Of a volume's files only those touched may be others: reads of the rest give the same, nothing was put into them, and
-- at each moment since a crash leaves of them what it left before.
pub record IsSameBeside {A : Type 0} (touched : FileId → Type 0) (tells : Type 0) (reads : A → FileId → List ℕ) (put : A → FileId → ℕ) (faults : A → ℕ) (history : A → History FileId) (before now : A) : Type 0 where
  pub same_reads : (file : FileId) → ¬ touched file → reads now file ≡ reads before file
  pub same_put : (file : FileId) → ¬ touched file → put now file ≡ put before file
  pub untouched : tells → IsUntouchedBeside touched (history before) (history now)
  pub faults_kept : faults before ≤ faults now

-- only this file is touched
abbrev pub Only : FileId → FileId → Type 0
Only touched file = file ≡ touched

-- nothing was written to a volume, and a crash leaves what it left before
pub record IsUnwritten {A : Type 0} (tells : Type 0) (reads : A → FileId → List ℕ) (put : A → FileId → ℕ) (history : A → History FileId) (before now : A) : Type 0 where
  pub same_reads : (file : FileId) → reads now file ≡ reads before file
  pub same_put : (file : FileId) → put now file ≡ put before file
  pub rested : tells → IsRested (history before) (history now)
