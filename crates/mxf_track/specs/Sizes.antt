-- How many index segments there are, and how many bytes they and the tail have.
use Rattle.std.specs.Prelude.{ℕ, ◌+◌, ◌*◌, ◌/◌}

abbrev pub segment_count : ℕ → ℕ
segment_count frames = (frames + 4999) / 5000

-- a segment has 117 bytes beside its entries, and an entry 11
abbrev pub segments_size : ℕ → ℕ
segments_size frames = 117 * segment_count frames + 11 * frames

-- with the partition's pack, of 124, and the random index pack, of 60
abbrev pub tail_size : ℕ → ℕ
tail_size frames = 184 + segments_size frames
