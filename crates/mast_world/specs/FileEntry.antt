-- Entries of files in a table.
use Rattle.std.specs.Prelude.{◌≡◌, ℕ, ◌<◌, ◌==◌, List, length, take, slice_index_or, Bool, true, false, None}
use Rattle.std.specs.List.{find}
use Rattle.mast_world.specs.declared.volume.FileId.{FileId}
use Rattle.mast_world.specs.declared.volume.FileId.TheVariants.{Picture, Sound, Cpl, Pkl, AssetMap, VolIndex}
use Rattle.mast_world.specs.declared.volume.FileId.TheVariants.{Job, Info, Spill}
use Rattle.mast_world.specs.declared.file_entry.FileEntry.{FileEntry}

abbrev pub same_file : FileId → FileId → Bool
same_file (Picture m) (Picture n) = m == n
same_file (Sound m) (Sound n) = m == n
same_file Cpl Cpl = true
same_file Pkl Pkl = true
same_file AssetMap AssetMap = true
same_file VolIndex VolIndex = true
same_file Job Job = true
same_file Info Info = true
same_file Spill Spill = true
same_file _ _ = false

abbrev pub is_of : {T : Type 0} → FileId → FileEntry T → Bool
is_of file entry = same_file entry.file file

-- the first entry of the file stands there
pub record FirstAt {T : Type 0} (entries : List (FileEntry T)) (file : FileId) (at : ℕ) : Type 0 where
  pub within : at < length entries
  pub before : find (is_of file) (take at entries) ≡ None
  pub here : (entry : FileEntry T) → (slice_index_or entries at entry).file ≡ file
