-- How what the code keeps of a bit-plane tells of a walk of the definition.
use Rattle.std.specs.Prelude.{ℕ, ◌*◌, ◌<◌, ◌≡◌, Bool, true, List, All, length, take, slice_index}
use Rattle.std.specs.Int.{bit_at, from_bool, is_negative}
use Rattle.codec_terms.specs.Contexts.{contains}
use Rattle.codec_terms.specs.BlockDecisions.{Block, Walk, negatives, no_samples, plane_start, plane_bit, value_at, is_first}
use Rattle.block_words.specs.Words.{place_of, IsWord}
use Rattle.block_words.specs.Told.{decisions_of}
use Rattle.block_sets.specs.Places.{column_at, row_at}
use Rattle.block_passes.specs.Scan.{has_sample}
use Rattle.block_passes.specs.declared.plane.Plane.{Plane}
use Rattle.block_passes.specs.declared.state.PassState.{PassState}

-- the words are the set of these samples
abbrev pub HasBits : Block → List Bool → List ℕ → Type 0
HasBits b samples set =
    (w i : ℕ) → w < 16 → i < 64 → bit_at (slice_index set w) i ≡ from_bool (contains b.width samples (column_at w i) (row_at w i))

-- what is given of a bit-plane is that of bit-plane p of block b
pub record IsPlane (b : Block) (p : ℕ) (plane : Plane) : Type 0 where
  pub kind : plane.kind ≡ b.kind
  pub width : plane.width ≡ b.width
  pub height : plane.height ≡ b.height
  pub whole : length b.values ≡ b.width * b.height
  pub samples : (w i : ℕ) → w < 16 → i < 64 → bit_at (slice_index plane.samples.now w) i ≡ from_bool (has_sample b w i)
  pub bits : (w i : ℕ) → w < 16 → i < 64 → has_sample b w i ≡ true
      → bit_at (slice_index plane.bits.now w) i ≡ from_bool (plane_bit b p (column_at w i) (row_at w i))
  pub signs : (w i : ℕ) → w < 16 → i < 64 → has_sample b w i ≡ true
      → bit_at (slice_index plane.signs.now w) i ≡ from_bool (is_negative (value_at b (column_at w i) (row_at w i)))
  pub first : (w i : ℕ) → w < 16 → i < 64 → has_sample b w i ≡ true
      → bit_at (slice_index plane.first.now w) i ≡ from_bool (is_first b p (column_at w i) (row_at w i))

-- these samples are significant now, and those are seen by the propagation pass
pub record HasSets (b : Block) (s : PassState) (now seen : List Bool) : Type 0 where
  pub significant_size : length now ≡ b.width * b.height
  pub visited_size : length seen ≡ b.width * b.height
  pub words : (x y : ℕ) → x < b.width → y < b.height
      → IsWord b.width now (negatives b) x y (slice_index s.words (place_of x y))
  pub significant : HasBits b now s.significant
  pub visited : HasBits b seen s.visited

-- the decisions of the bit-plane, in order
abbrev pub codes : PassState → List ℕ
codes s = take s.count s.decisions

pub record HasTold (b : Block) (s : PassState) (w : Walk) : Type 0 where
  pub sets : HasSets b s w.significant w.visited
  pub list : decisions_of (codes s) ≡ w.decisions
  pub contexts : All (λ code. code < 38) (codes s)

-- before bit-plane p those samples are significant that have a bit above it, none is visited, and those are known
-- whose highest bit is the one above it
pub record IsBefore (b : Block) (p : ℕ) (s : PassState) : Type 0 where
  pub sets : HasSets b s (plane_start b p).significant (no_samples b)
  pub first : (w i : ℕ) → w < 16 → i < 64 → has_sample b w i ≡ true
      → bit_at (slice_index s.first w) i ≡ from_bool (is_first b p (column_at w i) (row_at w i))

-- the words of all samples tell of these significant ones
pub record HasWords (b : Block) (words : List ℕ) (now : List Bool) : Type 0 where
  pub size : length now ≡ b.width * b.height
  pub each : (x y : ℕ) → x < b.width → y < b.height
      → IsWord b.width now (negatives b) x y (slice_index words (place_of x y))
