-- What a crash may leave of a disk's files, from what was asked of the disk.
use Rattle.std.specs.Prelude.{◌≡◌, ◌≢◌, ◌⊎◌, ℕ, ◌+◌, ◌<◌, ◌≤◌, min, max, Bool, false, ◌&&◌, nat_le, nat_lt, ⊤, List, [], ◌∷◌, ◌++◌, length, take, slice_index, All}
use Rattle.std.specs.List.{list_any}

-- so many bytes from a place on
pub record Range : Type 0 where
  pub at : ℕ
  pub size : ℕ

abbrev pub is_in : ℕ → Range → Bool
is_in place range = nat_le range.at place && nat_lt place (range.at + range.size)

-- what is known of a file since its last sync: its bytes then, the ranges that were written since, the least and the
-- greatest length since
pub record Trail : Type 0 where
  pub synced : List ℕ
  pub written : List Range
  pub least : ℕ
  pub greatest : ℕ

abbrev pub was_written : Trail → ℕ → Bool
was_written trail place = list_any (is_in place) trail.written

abbrev pub AreBytes : List ℕ → Type 0
AreBytes = All (λ byte. byte < 256)

-- A crash may leave these bytes of the file: any bytes in the ranges that were written and past the old end, and any
-- length from the least to the greatest. All other bytes are as they were.
pub record MayLeave (trail : Trail) (bytes : List ℕ) : Type 0 where
  pub least : trail.least ≤ length bytes
  pub greatest : length bytes ≤ trail.greatest
  pub kept : (place : ℕ) → place < length bytes → place < length trail.synced → was_written trail place ≡ false
      → slice_index bytes place ≡ slice_index trail.synced place
  pub small : AreBytes bytes

-- a file that stands on the disk as it is; one that isn't there is empty
abbrev pub at_rest : List ℕ → Trail
at_rest bytes = record { synced = bytes; written = []; least = length bytes; greatest = length bytes }

-- behind a write of so many bytes at a place and behind a cut, whether they failed or not
abbrev pub written_to : ℕ → ℕ → Trail → Trail
written_to at size trail = record trail {
  written = record { at = at; size = size } ∷ trail.written;
  greatest = max trail.greatest (at + size);
}

abbrev pub cut_to : ℕ → Trail → Trail
cut_to size trail = record trail { least = min trail.least size }

-- the new bytes are the old ones, but for some in a range, which may go past the end
pub record DiffersWithin (range : Range) (old new : List ℕ) : Type 0 where
  pub least : length old ≤ length new
  pub greatest : length new ≤ max (length old) (range.at + range.size)
  pub kept : (place : ℕ) → place < length new → is_in place range ≡ false → slice_index new place ≡ slice_index old place

-- the new bytes are the old ones, cut to this size or a longer one
pub record IsCutWithin (size : ℕ) (old new : List ℕ) : Type 0 where
  pub longer : ℕ
  pub least : size ≤ longer
  pub kept : new ≡ take longer old

-- each file's trail, and what a crash leaves of each file
abbrev pub Disk : Type 0 → Type 0
Disk File = File → Trail

abbrev pub Image : Type 0 → Type 0
Image File = File → List ℕ

abbrev pub IsImage : {File : Type 0} → Disk File → Image File → Type 0
IsImage {File} disk image = (file : File) → MayLeave (disk file) (image file)

-- the disks at each moment so far: that of now, and the earlier ones, the newest first. A crash in the middle of a call
-- leaves an image of the disk in front of the call or of that behind it.
pub record History (File : Type 0) : Type 0 where
  pub newest : Disk File
  pub earlier : List (Disk File)

abbrev pub disks : {File : Type 0} → History File → List (Disk File)
disks history = history.newest ∷ history.earlier

-- one disk more, on which this file has this trail and each other file the one that it had
pub record IsChanged {File : Type 0} (file : File) (trail : Trail) (before now : History File) : Type 0 where
  pub changed : now.newest file ≡ trail
  pub others : (other : File) → other ≢ file → now.newest other ≡ before.newest other
  pub earlier : now.earlier ≡ disks before

-- What calls make of the history. Reads and a sync that failed leave it as it was.
abbrev pub IsWritten : {File : Type 0} → File → ℕ → ℕ → History File → History File → Type 0
IsWritten file at size before now = IsChanged file (written_to at size (before.newest file)) before now

abbrev pub IsCutTo : {File : Type 0} → File → ℕ → History File → History File → Type 0
IsCutTo file size before now = IsChanged file (cut_to size (before.newest file)) before now

abbrev pub IsSynced : {File : Type 0} → File → List ℕ → History File → History File → Type 0
IsSynced file bytes before now = IsChanged file (at_rest bytes) before now

abbrev pub IsRested : {File : Type 0} → History File → History File → Type 0
IsRested before now = now ≡ before

-- A call that failed put its moment there or none.
abbrev pub IsWrittenAtMost : {File : Type 0} → File → ℕ → ℕ → History File → History File → Type 0
IsWrittenAtMost file at size before now = IsWritten file at size before now ⊎ IsRested before now

abbrev pub IsCutAtMost : {File : Type 0} → File → ℕ → History File → History File → Type 0
IsCutAtMost file size before now = IsCutTo file size before now ⊎ IsRested before now

-- from before the history went on to now, by further disks that each have P
pub record HasPassed {File : Type 0} (P : Disk File → Type 0) (before now : History File) : Type 0 where
  pub further : List (Disk File)
  pub joined : disks now ≡ further ++ disks before
  pub each : All P further

abbrev pub IsSince : {File : Type 0} → History File → History File → Type 0
IsSince before now = HasPassed (λ _. ⊤) before now

-- at each moment since, every file beside those touched has the trail of before
pub record IsUntouchedBeside {File : Type 0} (touched : File → Type 0) (before now : History File) : Type 0 where
  pub passed : HasPassed (λ disk. (file : File) → ¬ touched file → disk file ≡ before.newest file) before now

-- a crash at one of the two moments, or between them, may leave this image
pub record CrashedBetween {File : Type 0} (before now : History File) (image : Image File) : Type 0 where
  pub moment : History File
  pub begun : IsSince before moment
  pub ended : IsSince moment now
  pub left : IsImage moment.newest image

-- from before the history went on to now, and each image that a crash may have left since has P
pub record Survives {File : Type 0} (P : Image File → Type 0) (before now : History File) : Type 0 where
  pub passed : IsSince before now
  pub each : (image : Image File) → CrashedBetween before now image → P image
