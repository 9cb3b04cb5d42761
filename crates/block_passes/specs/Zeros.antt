-- Tables of zero contexts by the low byte of a sample's word.
use Rattle.std.specs.Prelude.{ℕ, ◌*◌, ◌<◌, ◌≡◌, List, slice_index}
use Rattle.codec_terms.specs.declared.picture.BandKind.{BandKind}
use Rattle.codec_terms.specs.Contexts.{zero_context}
use Rattle.block_contexts.specs.Words.{horizontal_of, vertical_of, diagonal_of}

-- each byte is twice the context
pub record AreZeroCodes (kind : BandKind) (codes : List ℕ) : Type 0 where
  pub each : (n : ℕ) → n < 256 → slice_index codes n ≡ 2 * zero_context kind (horizontal_of n) (vertical_of n) (diagonal_of n)
