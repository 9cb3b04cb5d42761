-- A code-block's bit-planes and signs as sets.
use Rattle.std.specs.Prelude.{ℕ, suc, ◌*◌, ◌/◌, ◌%◌, ◌^◌, ◌<◌, ◌≡◌, ◌==◌, Bool, true, List, [], All, length, map, replicate, slice_index, slice_index_or, ℤ, unsigned_abs}
use Rattle.std.specs.Int.{bit_at}
use Rattle.codec_terms.specs.BlockDecisions.{Block, negatives}
use Rattle.block_sets.specs.Sets.{IsSet}
use Rattle.block_sets.specs.declared.planes.BlockPlanes.{BlockPlanes}

-- whether bit p of a value's magnitude is 1
abbrev pub has_bit : ℕ → ℤ → Bool
has_bit p v = unsigned_abs v / 2 ^ p % 2 == 1

-- the samples whose bit of bit-plane p is 1
abbrev pub plane_samples : Block → ℕ → List Bool
plane_samples b p = map (has_bit p) b.values

-- those whose highest bit is the one above bit-plane p, so that p refines them for the first time
abbrev pub has_highest_above : ℕ → ℤ → Bool
has_highest_above p v = unsigned_abs v / 2 ^ suc p == 1

abbrev pub first_samples : Block → ℕ → List Bool
first_samples b p = map (has_highest_above p) b.values

-- all samples of a block
abbrev pub all_samples : ℕ → ℕ → List Bool
all_samples width height = replicate (width * height) true

-- bit-plane p, from the lowest, 0; above the last no value has a bit
abbrev pub plane_at : BlockPlanes → ℕ → List ℕ
plane_at planes p = slice_index_or planes.planes.now p []

pub record HasPlanesOf (b : Block) (planes : BlockPlanes) : Type 0 where
  pub kind : planes.kind ≡ b.kind
  pub width : planes.width ≡ b.width
  pub height : planes.height ≡ b.height
  pub whole : length b.values ≡ b.width * b.height
  pub signs : IsSet b.width b.height (negatives b) planes.signs.now
  pub each : (p : ℕ) → p < length planes.planes.now → IsSet b.width b.height (plane_samples b p) (plane_at planes p)
  pub small : All (λ v. unsigned_abs v < 2 ^ length planes.planes.now) b.values

-- sixteen sets are a block's bit-planes, from the lowest, and at the end the samples with negative values
pub record AreSetsOf (b : Block) (sets : List (List ℕ)) : Type 0 where
  pub whole : length b.values ≡ b.width * b.height
  pub signs : IsSet b.width b.height (negatives b) (slice_index_or sets 15 [])
  pub each : (p : ℕ) → p < 15 → IsSet b.width b.height (plane_samples b p) (slice_index_or sets p [])
  pub small : All (λ v. unsigned_abs v < 2 ^ 15) b.values

-- some word of a set has a bit
pub record HasBit (set : List ℕ) : Type 0 where
  pub word : ℕ
  pub at : ℕ
  pub inside : word < 16
  pub small : at < 64
  pub bit : bit_at (slice_index set word) at ≡ 1
