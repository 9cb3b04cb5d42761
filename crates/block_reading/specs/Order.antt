-- The coding passes of a code-block by their number: the first is a cleanup pass, and each lower bit-plane has three.
use Rattle.std.specs.Prelude.{ℕ, zero, suc, ◌+◌, ◌-◌, ◌/◌, ◌%◌, List, map, fold}
use Rattle.std.specs.List.{range_with_len}
use Rattle.codec_terms.specs.Passes.{Pass, Propagation, Refinement, Cleanup}
use Rattle.codec_terms.specs.BlockReading.{Area, Known, next_read, nothing_known}
use Rattle.block_reading.specs.Bounds.{HasBitsFrom, IsSpared}

-- the first of three in a bit-plane, the second and the third
abbrev pub kind_of_pass : ℕ → Pass
kind_of_pass zero = Propagation
kind_of_pass (suc zero) = Refinement
kind_of_pass (suc (suc n)) = Cleanup

-- pass n, counted from 0
abbrev pub pass_at : ℕ → ℕ → ℕ × Pass
pass_at planes n = (planes - 1 - (n + 2) / 3, kind_of_pass ((n + 2) % 3))

-- what the first n passes give
unfoldable pub read_so_far : Area → ℕ → ℕ → List ℕ → Known
read_so_far a planes n codeword =
    fold (next_read a) (nothing_known a codeword) (map (pass_at planes) (range_with_len 0 n))

-- what holds of the magnitudes before a pass
abbrev pub IsReady : Area → ℕ → ℕ → ℕ → Known → Type 0
IsReady a planes p zero k = IsSpared a planes p k
IsReady a planes p (suc zero) k = IsSpared a planes p k
IsReady a planes p (suc (suc n)) k = HasBitsFrom planes p k
