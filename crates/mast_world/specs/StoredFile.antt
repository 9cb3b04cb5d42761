-- Files of a volume in memory.
use Rattle.std.specs.Prelude.{ℕ, List, [], Option, Some, None}
use Rattle.std.specs.List.{find}
use Rattle.mast_world.specs.FileEntry.{is_of}
use Rattle.mast_world.specs.declared.file_entry.FileEntry.{FileEntry}
use Rattle.mast_world.specs.declared.mem_volume.StoredFile.{StoredFile}
use Rattle.mast_world.specs.declared.volume.FileId.{FileId}

abbrev pub bytes_in : Option (FileEntry StoredFile) → List ℕ
bytes_in None = []
bytes_in (Some entry) = entry.value.bytes.items

abbrev pub put_in : Option (FileEntry StoredFile) → ℕ
put_in None = 0
put_in (Some entry) = entry.value.put

-- what the file contains; one that isn't stored is empty
abbrev pub stored_bytes : List (FileEntry StoredFile) → FileId → List ℕ
stored_bytes stored file = bytes_in (find (is_of file) stored)

-- how many bytes were written to it
abbrev pub stored_put : List (FileEntry StoredFile) → FileId → ℕ
stored_put stored file = put_in (find (is_of file) stored)
