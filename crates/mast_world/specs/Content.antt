-- What files contain, as lists of bytes.
use Rattle.std.specs.Prelude.{ℕ, ◌+◌, ◌≤◌, List, [], ◌++◌, length, take, drop, Option, unwrap_or, IsSomeAnd}

-- what the files of a source contain, by their names
abbrev pub Files : Type 0
Files = List ℕ → Option (List ℕ)

-- n bytes from a place on
abbrev pub part : List ℕ → ℕ → ℕ → List ℕ
part bytes at n = take n (drop at bytes)

-- the same of a file, which may not be there
abbrev pub part_of : Option (List ℕ) → ℕ → ℕ → List ℕ
part_of file at n = part (unwrap_or file []) at n

-- the file is there and has all bytes in front of this place
abbrev pub Reaches : Option (List ℕ) → ℕ → Type 0
Reaches file end = IsSomeAnd file (λ bytes. end ≤ length bytes)

-- the old bytes with new ones from a place on, which may go past the end
abbrev pub overwritten : List ℕ → ℕ → List ℕ → List ℕ
overwritten old at bytes = take at old ++ bytes ++ drop (at + length bytes) old
