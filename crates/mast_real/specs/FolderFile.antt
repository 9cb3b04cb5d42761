-- Files of an output folder that were opened.
use Rattle.std.specs.Prelude.{ℕ, List, Option, Some, None}
use Rattle.std.specs.List.{find}
use Rattle.mast_world.specs.FileEntry.{is_of}
use Rattle.mast_world.specs.declared.file_entry.FileEntry.{FileEntry}
use Rattle.mast_world.specs.declared.volume.FileId.{FileId}
use Rattle.mast_real.specs.declared.folder_volume.FolderFile.{FolderFile}

abbrev pub put_in : Option (FileEntry FolderFile) → ℕ
put_in None = 0
put_in (Some entry) = entry.value.put

-- how many bytes were written to a file
abbrev pub folder_put : List (FileEntry FolderFile) → FileId → ℕ
folder_put files file = put_in (find (is_of file) files)
