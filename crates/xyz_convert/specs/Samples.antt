-- Samples in a row of raw bytes.
use Rattle.std.specs.Prelude.{ℕ, ◌+◌, ◌*◌, List, slice_index}

-- the 16-bit sample at a place, the higher byte first
abbrev pub sample_at : List ℕ → ℕ → ℕ
sample_at raw at = slice_index raw at * 256 + slice_index raw (at + 1)
