-- How a job goes on.
use Rattle.std.proofs.Common.{◌≡◌, inl, inr, ℕ, List, Bool, true, false, refl, sym, ap, subst}
use Rattle.std.specs.Prelude.{◌↔◌, ◌||◌, IsTrue, if◌then◌else◌}
use Rattle.disk_terms.specs.Disk.{Disk, History, Image, IsImage, IsUntouchedBeside, MayLeave, Trail}
use Rattle.disk_terms.proofs.Crashes.{Survives-further, Survives-untouched}
use Rattle.resume_terms.specs.Resumable.{GoesOn, HasRecords, IsResumable}

-- Whether an image is resumable is seen in the job file and in `info`.
IsResumable-alike : {File : Type 0} (job info : File) (text : List ℕ) (frames : ℕ) (rec : ℕ → List ℕ)
    (image other : Image File)
    → other job ≡ image job → other info ≡ image info → IsResumable job info text frames rec image
    → IsResumable job info text frames rec other
IsResumable-alike job info text frames rec image other same_job same_info (inl none) = inl (rw same_job none)
IsResumable-alike job info text frames rec image other same_job same_info (inr (inl another)) =
    inr (inl (record { other = another.other; opened = rw same_job another.opened; differs = another.differs }))
IsResumable-alike job info text frames rec image other same_job same_info (inr (inr has)) =
    inr (inr (subst (HasRecords frames rec) (sym same_info) has))

-- one file's bytes where a test says so, else the other's
abbrev pick : Bool → List ℕ → List ℕ → List ℕ
pick among bytes others = if among then bytes else others

pick-second : (first second : Bool) (bytes others : List ℕ) → second ≡ true
    → pick (first || second) bytes others ≡ bytes
pick-second true second bytes others is = refl
pick-second false second bytes others is = ap (λ among. pick among bytes others) is

pick-left : (trail : Trail) (bytes others : List ℕ) (first second : Bool) → (first ≡ true → MayLeave trail bytes)
    → (second ≡ true → MayLeave trail bytes)
    → MayLeave trail others → MayLeave trail (pick (first || second) bytes others)
pick-left trail bytes others true second one other rest = one refl
pick-left trail bytes others false true one other rest = other refl
pick-left trail bytes others false false one other rest = rest

-- the job file and `info` of one image, and the files beside them of another
abbrev joined : {File : Type 0} → (File → File → Bool) → File → File → Image File → Image File → Image File
joined same job info image first file = pick (same file job || same file info) (image file) (first file)

joined-left : {File : Type 0} (same : File → File → Bool) → ((x y : File) → IsTrue (same x y) ↔ (x ≡ y))
    → (job info : File) (disk : Disk File) (image first : Image File)
    → MayLeave (disk job) (image job) → MayLeave (disk info) (image info) → IsImage disk first
    → IsImage disk (joined same job info image first)
joined-left {File} same tells job info disk image first left_job left_info left file =
    let moved : (other : File) → MayLeave (disk other) (image other) → same file other ≡ true
    → MayLeave (disk file) (image file) =
    λ other may is. subst (λ name. MayLeave (disk name) (image name)) (sym ((tells file other).0 is)) may in
    pick-left (disk file) (image file) (first file) (same file job) (same file info) (moved job left_job)
    (moved info left_info) (left file)

-- Calls that touch neither the job file nor `info`.
pub GoesOn-untouched : {File : Type 0} (same : File → File → Bool) → ((x y : File) → IsTrue (same x y) ↔ (x ≡ y))
    → (job info : File) (text : List ℕ) (frames : ℕ)
    (rec : ℕ → List ℕ) (touched : File → Type 0) (before now : History File) → ¬ touched job → ¬ touched info
    → IsUntouchedBeside touched before now
    → ((image : Image File) → IsImage before.newest image → IsResumable job info text frames rec image)
    → (first : Image File) → IsImage before.newest first → GoesOn job info text frames rec before now
GoesOn-untouched {File} same tells job info text frames rec touched before now beside_job beside_info untouched
    resumable first left =
    Survives-untouched (IsResumable job info text frames rec) touched before now untouched (λ image kept.
    let among : Image File = joined same job info image first in
    let same_job : image job ≡ among job =
    sym (ap (λ is. pick (is || same job info) (image job) (first job)) ((tells job job).1 refl)) in
    let same_info : image info ≡ among info =
    sym (pick-second (same info job) (same info info) (image info) (first info) ((tells info info).1 refl)) in
    IsResumable-alike job info text frames rec among image same_job same_info
    (resumable among (joined-left same tells job info before.newest image first
    (kept job beside_job) (kept info beside_info) left)))

pub GoesOn-further : {File : Type 0} (job info : File) (text : List ℕ) (frames : ℕ) (rec : ℕ → List ℕ)
    (before middle now : History File)
    → GoesOn job info text frames rec before middle → GoesOn job info text frames rec middle now
    → GoesOn job info text frames rec before now
GoesOn-further job info text frames rec before middle now first second =
    Survives-further (IsResumable job info text frames rec) before middle now first second
