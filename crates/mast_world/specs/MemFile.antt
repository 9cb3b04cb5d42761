-- Files of a source in memory.
use Rattle.std.specs.Prelude.{ℕ, List, ◌++◌, take, replicate, Option, option_map}
use Rattle.std.specs.List.{find}
use Rattle.std.specs.Str.{bytes_eq}
use Rattle.mast_world.specs.declared.mem_source.MemFile.{MemFile}

-- the given bytes, then the byte that fills, up to the size
abbrev pub content : MemFile → List ℕ
content file = take file.size (file.bytes ++ replicate file.size file.fill)

-- what the first file of this name contains
abbrev pub content_of : List MemFile → List ℕ → Option (List ℕ)
content_of files name = option_map content (find (λ file. bytes_eq file.name name) files)
