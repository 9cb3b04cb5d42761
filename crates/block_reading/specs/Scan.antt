-- The coding passes of a bit-plane over the words of a set, in the decoder's direction: bit i of word w is one sample, and
-- the bits of a word from the lowest are its samples in the order of the scan.
use Rattle.std.specs.Prelude.{ℕ, ◌+◌, ◌*◌, ◌%◌, nat_lt, if◌then◌else◌, fold, []}
use Rattle.std.specs.List.{range_with_len}
use Rattle.codec_terms.specs.Contexts.{Column}
use Rattle.codec_terms.specs.BlockDecisions.{Block, Walk}
use Rattle.codec_terms.specs.BlockReading.{Area, Known}
use Rattle.block_sets.specs.Places.{column_at, row_at}
use Rattle.block_passes.specs.Scan.{has_sample, column_of_word}

-- a block of that kind and size, of which no value is known, and the sets of what is known
abbrev pub block_at : Area → Block
block_at a = record { kind = a.kind; width = a.width; height = a.height; values = [] }

abbrev pub walk_of : Known → Walk
walk_of k = record { decisions = []; significant = k.significant; visited = k.visited }

-- a pass's step of a sample, at a bit: what doesn't exist changes nothing
unfoldable pub bit_step : (ℕ → Known → ℕ → Known) → Area → ℕ → Known → ℕ → Known
bit_step step a w k i = if has_sample (block_at a) w i then step (column_at w i) k (row_at w i) else k

-- the first n bits of word w
unfoldable pub bits_read : (ℕ → Known → ℕ → Known) → Area → ℕ → ℕ → Known → Known
bits_read step a w n k = fold (bit_step step a w) k (range_with_len 0 n)

-- column c of the 16 in word w
unfoldable pub column_step : (Known → Column → Known) → Area → ℕ → Known → ℕ → Known
column_step step a w k c = if nat_lt (w % 2 * 16 + c) a.width then step k (column_of_word (block_at a) w c) else k

-- the first n columns of word w
unfoldable pub columns_read : (Known → Column → Known) → Area → ℕ → ℕ → Known → Known
columns_read step a w n k = fold (column_step step a w) k (range_with_len 0 n)
