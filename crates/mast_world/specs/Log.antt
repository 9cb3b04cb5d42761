-- The history that the calls on a volume in memory make.
use Rattle.std.specs.Prelude.{[], List, length, fold, if◌then◌else◌}
use Rattle.disk_terms.specs.Disk.{History, Trail, at_rest, cut_to, disks, written_to}
use Rattle.mast_world.specs.FileEntry.{same_file}
use Rattle.mast_world.specs.declared.change.Change.{Change}
use Rattle.mast_world.specs.declared.change.Change.TheVariants.{Written, Cut, Synced}
use Rattle.mast_world.specs.declared.volume.FileId.{FileId}

-- one disk more, on which this file has that trail
abbrev pub with_trail : FileId → Trail → History FileId → History FileId
with_trail file trail history = record {
  newest = λ other. if same_file other file then trail else history.newest other;
  earlier = disks history;
}

-- the file that a change is of
abbrev pub file_of : Change → FileId
file_of (Written file at bytes) = file
file_of (Cut file size) = file
file_of (Synced file bytes) = file

abbrev pub changed_by : History FileId → Change → History FileId
changed_by history (Written file at bytes) =
    with_trail file (written_to at (length bytes) (history.newest file)) history
changed_by history (Cut file size) = with_trail file (cut_to size (history.newest file)) history
changed_by history (Synced file bytes) = with_trail file (at_rest bytes) history

-- before the first call
abbrev pub nothing_there : History FileId
nothing_there = record { newest = λ _. at_rest []; earlier = [] }

unfoldable pub history_of : List Change → History FileId
history_of changes = fold changed_by nothing_there changes
