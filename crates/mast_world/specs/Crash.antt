-- Four images that a crash may leave of a file of a volume in memory, made of the writes since the file's last sync.
use Rattle.std.specs.Prelude.{◌≡◌, ℕ, ◌+◌, ◌/◌, List, [], ◌∷◌, ◌++◌, length, take, drop, replicate, fold, if◌then◌else◌}
use Rattle.disk_terms.specs.Disk.{Trail}
use Rattle.mast_world.specs.FileEntry.{same_file}
use Rattle.mast_world.specs.Log.{history_of}
use Rattle.mast_world.specs.declared.change.Change.{Change}
use Rattle.mast_world.specs.declared.change.Change.TheVariants.{Written, Cut, Synced}
use Rattle.mast_world.specs.declared.crash.CrashImage.{CrashImage}
use Rattle.mast_world.specs.declared.crash.CrashImage.TheVariants.{AsBefore, AsWritten, HalfWritten, AllOnes}
use Rattle.mast_world.specs.declared.crash.Remains.{Remains}
use Rattle.mast_world.specs.declared.volume.FileId.{FileId}

-- bytes that were to be written from a place on
pub record Write : Type 0 where
  pub at : ℕ
  pub bytes : List ℕ

-- one write more, or none behind a sync
abbrev pub unsynced_by : FileId → List Write → Change → List Write
unsynced_by file writes (Written other at bytes) =
    if same_file file other then writes ++ record { at = at; bytes = bytes } ∷ [] else writes
unsynced_by file writes (Cut other size) = writes
unsynced_by file writes (Synced other bytes) = if same_file file other then [] else writes

-- the writes to a file since its last sync, the oldest first
unfoldable pub unsynced : List Change → FileId → List Write
unsynced log file = fold (unsynced_by file) [] log

-- new bytes over the old ones from a place on; where those end in front of it, zeros stand between
abbrev pub laid : ℕ → List ℕ → List ℕ → List ℕ
laid at new old = take at (old ++ replicate at 0) ++ new ++ drop (at + length new) old

-- bytes of this size: the given ones, and behind them the byte that fills
abbrev pub padded : ℕ → ℕ → List ℕ → List ℕ
padded fill size bytes = take size (bytes ++ replicate size fill)

-- what an image has of a write, over the bytes that were there
abbrev pub laid_by : CrashImage → List ℕ → Write → List ℕ
laid_by AsBefore old write = old
laid_by AsWritten old write = laid write.at write.bytes old
laid_by HalfWritten old write = laid write.at (take (length write.bytes / 2) write.bytes) old
laid_by AllOnes old write = laid write.at (replicate (length write.bytes) 1) old

abbrev pub trail_in : List Change → FileId → Trail
trail_in log file = (history_of log).newest file

-- the bytes at the last sync, and over them what an image has of each write since
abbrev pub with_writes : CrashImage → List Change → FileId → List ℕ
with_writes image log file = fold (laid_by image) (trail_in log file).synced (unsynced log file)

-- no write since the last sync was done, but each cut
abbrev pub as_before : List Change → FileId → List ℕ
as_before log file = take (trail_in log file).least (trail_in log file).synced

-- each write was done, and no cut
abbrev pub as_written : List Change → FileId → List ℕ
as_written log file = padded 0 (trail_in log file).greatest (with_writes AsWritten log file)

-- of each write the first half was done
abbrev pub half_written : List Change → FileId → List ℕ
half_written log file = padded 0 (trail_in log file).greatest (with_writes HalfWritten log file)

-- where a write was to be done there are ones
abbrev pub all_ones : List Change → FileId → List ℕ
all_ones log file = padded 1 (trail_in log file).greatest (with_writes AllOnes log file)

abbrev pub crash_image : CrashImage → List Change → FileId → List ℕ
crash_image AsBefore log file = as_before log file
crash_image AsWritten log file = as_written log file
crash_image HalfWritten log file = half_written log file
crash_image AllOnes log file = all_ones log file

-- what an image is made of, behind these changes
pub record AreRemains (image : CrashImage) (log : List Change) (file : FileId) (remains : Remains) : Type 0 where
  pub bytes : remains.bytes.items ≡ with_writes image log file
  pub least : remains.least ≡ (trail_in log file).least
  pub greatest : remains.greatest ≡ (trail_in log file).greatest
