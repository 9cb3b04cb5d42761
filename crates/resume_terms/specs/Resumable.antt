-- What a crash may leave of a job, so that the job can be resumed.
use Rattle.std.specs.Prelude.{◌≡◌, ◌≢◌, ◌⊎◌, ℕ, zero, suc, ◌+◌, ◌*◌, ◌<◌, ◌≤◌, ◌==◌, ◌&&◌, nat_lt, if◌then◌else◌, List}
use Rattle.std.specs.Prelude.{length, take, drop, slice_index, Option, None, Some}
use Rattle.std.specs.Int.{from_be_bytes, w32, w64}
use Rattle.disk_terms.specs.Disk.{CrashedBetween, Disk, History, Image, IsImage, Survives}

-- The job file is open where it has more than one byte and its first byte is 1. Its text is the rest.
abbrev pub open_text : List ℕ → Option (List ℕ)
open_text bytes = if nat_lt 1 (length bytes) && slice_index bytes 0 == 1 then Some (drop 1 bytes) else None

-- record i of `info`, which has 64 bytes for each frame
abbrev pub record_at : ℕ → List ℕ → List ℕ
record_at i bytes = take 64 (drop (64 * i) bytes)

-- A record is open where its first byte, its gate, is 1.
abbrev pub IsOpen : List ℕ → Type 0
IsOpen bytes = slice_index bytes 0 ≡ 1

-- Behind the gate of a record stand a one and two zeros, four fields, and 28 zeros. Numbers stand high byte first.

-- the number of the record's frame
abbrev pub frame_of : List ℕ → ℕ
frame_of bytes = from_be_bytes w32 (take 4 (drop 4 bytes))

-- where the frame's region of the picture file begins
abbrev pub place_of : List ℕ → ℕ
place_of bytes = from_be_bytes w64 (take 8 (drop 8 bytes))

-- how many bytes the region has
abbrev pub size_of : List ℕ → ℕ
size_of bytes = from_be_bytes w32 (take 4 (drop 16 bytes))

-- the digest of the region's bytes
abbrev pub digest_of : List ℕ → List ℕ
digest_of bytes = take 16 (drop 20 bytes)

-- `info` has a record for each frame, and each that is open is what it is to be, all of it.
pub record HasRecords (frames : ℕ) (rec : ℕ → List ℕ) (bytes : List ℕ) : Type 0 where
  pub whole : length bytes ≡ 64 * frames
  pub each : (i : ℕ) → i < frames → IsOpen (record_at i bytes) → record_at i bytes ≡ rec i

-- the job file is open with another text
pub record IsOtherJob {File : Type 0} (job : File) (text : List ℕ) (image : Image File) : Type 0 where
  pub other : List ℕ
  pub opened : open_text (image job) ≡ Some other
  pub differs : other ≢ text

-- The job file isn't open, or holds another text, or `info` has the records.
abbrev pub IsResumable : {File : Type 0} → File → File → List ℕ → ℕ → (ℕ → List ℕ) → Image File → Type 0
IsResumable job info text frames rec image =
    (open_text (image job) ≡ None) ⊎ (IsOtherJob job text image ⊎ HasRecords frames rec (image info))

-- From before the history went on to now, and each image that a crash may have left since is resumable.
abbrev pub GoesOn : {File : Type 0} → File → File → List ℕ → ℕ → (ℕ → List ℕ) → History File → History File → Type 0
GoesOn job info text frames rec before now = Survives (IsResumable job info text frames rec) before now

-- the files that a record and the job's text don't stand in
abbrev pub IsElsewhere : {File : Type 0} → File → File → File → Type 0
IsElsewhere job info file = (file ≢ job) × (file ≢ info)

-- an image of the start has the same job file, `info` and picture file
pub record IsAsAtStart {File : Type 0} (job info picture : File) (before : History File)
    (image : Image File) : Type 0 where
  pub first : Image File
  pub left : IsImage before.newest first
  pub same_job : image job ≡ first job
  pub same_info : image info ≡ first info
  pub same_picture : image picture ≡ first picture

-- Each image that a crash may have left since, and that holds another job's text, is as at the start.
abbrev pub LeavesOther : {File : Type 0} → File → File → File → List ℕ → History File → History File → Type 0
LeavesOther {File} job info picture text before now = (image : Image File) → CrashedBetween before now image
    → IsOtherJob job text image → IsAsAtStart job info picture before image

-- the gate of record i is closed in these bytes
abbrev pub IsClosed : ℕ → List ℕ → Type 0
IsClosed i bytes = ¬ IsOpen (record_at i bytes)

-- Each gate that reads give as closed is closed in every image.
abbrev pub HasClosedGates : {File : Type 0} → File → ℕ → List ℕ → Disk File → Type 0
HasClosedGates {File} info frames reads disk = (i : ℕ) → i < frames → IsClosed i reads → (image : Image File)
    → IsImage disk image → IsClosed i (image info)

-- Every image of now has these bytes of the file.
abbrev pub Leaves : {File : Type 0} → List ℕ → File → History File → Type 0
Leaves {File} bytes file history = (image : Image File) → IsImage history.newest image → image file ≡ bytes

-- where the region of record i is to begin: where the one before ended, the first behind the picture file's head
abbrev pub place_due : ℕ → List ℕ → ℕ
place_due zero info = 16508
place_due (suc i) info = place_of (record_at i info) + size_of (record_at i info)

-- Record i is open, its region begins where it is due, the picture file has all of it, and it has the record's digest.
pub record IsIntact (digest : List ℕ → List ℕ) (info picture : List ℕ) (i : ℕ) : Type 0 where
  pub opened : IsOpen (record_at i info)
  pub due : place_of (record_at i info) ≡ place_due i info
  pub inside : place_of (record_at i info) + size_of (record_at i info) ≤ length picture
  pub proven : digest (take (size_of (record_at i info)) (drop (place_of (record_at i info)) picture))
      ≡ digest_of (record_at i info)

-- The first k frames are intact, and no more than these.
pub record AreIntact (frames : ℕ) (digest : List ℕ → List ℕ) (info picture : List ℕ) (k : ℕ) : Type 0 where
  pub within : k ≤ frames
  pub each : (i : ℕ) → i < k → IsIntact digest info picture i
  pub greatest : (more : ℕ) → more ≤ frames → ((i : ℕ) → i < more → IsIntact digest info picture i) → more ≤ k

-- So many leading frames are accepted: none where the job file isn't open with this text, else those that are intact.
pub record IsAccepted {File : Type 0} (job info picture : File) (text : List ℕ) (frames : ℕ)
    (digest : List ℕ → List ℕ) (image : Image File) (k : ℕ) : Type 0 where
  pub otherwise : open_text (image job) ≢ Some text → k ≡ 0
  pub this_job : open_text (image job) ≡ Some text → AreIntact frames digest (image info) (image picture) k
