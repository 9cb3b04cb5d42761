-- The block that sets of samples are the bit-planes and signs of.
--     block_of planes      its values are those whose bits and signs the sets have
use Rattle.std.specs.Prelude.{ℕ, zero, suc, ◌+◌, ◌*◌, ◌/◌, ◌%◌, ◌^◌, ◌==◌, if◌then◌else◌, List, [], length, map, slice_index_or, ℤ, pos, neg_ℤ}
use Rattle.std.specs.List.{range_with_len}
use Rattle.codec_terms.specs.BlockDecisions.{Block}
use Rattle.block_sets.specs.Sets.{holds}
use Rattle.block_sets.specs.declared.planes.BlockPlanes.{BlockPlanes}

-- the magnitude of sample (x, y) by its bits in the n lowest bit-planes
abbrev pub magnitude_in : List (List ℕ) → ℕ → ℕ → ℕ → ℕ
magnitude_in planes zero x y = 0
magnitude_in planes (suc n) x y = magnitude_in planes n x y + holds (slice_index_or planes n []) x y * 2 ^ n

abbrev pub value_in : BlockPlanes → ℕ → ℕ → ℤ
value_in planes x y =
    let magnitude = magnitude_in planes.planes.now (length planes.planes.now) x y in
    if holds planes.signs.now x y == 1 then neg_ℤ (pos magnitude) else pos magnitude

unfoldable pub block_of : BlockPlanes → Block
block_of planes = record {
  kind = planes.kind;
  width = planes.width;
  height = planes.height;
  values = map (λ n. value_in planes (n % planes.width) (n / planes.width)) (range_with_len 0 (planes.width * planes.height));
}
