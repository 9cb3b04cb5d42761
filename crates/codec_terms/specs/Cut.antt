-- The cut: how far bit-planes are left out, so that a codestream stays within its limits. This is this
-- project's own.
use Rattle.std.specs.Prelude.{ℕ, ◌≤◌, ◌<◌, Bool, ◌&&◌, nat_le, List, length, ℤ, find, unwrap_or}
use Rattle.std.specs.List.{range_with_len}
use Rattle.codec_terms.specs.declared.picture.Shape.{Shape}
use Rattle.mast_base.specs.declared.limits.Limits.{Limits}
use Rattle.codec_terms.specs.Codestream.{stream, part_length}

-- the whole and each of its three parts are within the limits
pub record IsWithin (limits : Limits) (shape : Shape) (q : List ℤ) (cut : ℕ) : Type 0 where
  pub whole : length (stream shape q cut) ≤ limits.frame
  pub first : part_length shape q cut 0 ≤ limits.component
  pub second : part_length shape q cut 1 ≤ limits.component
  pub third : part_length shape q cut 2 ≤ limits.component

-- the same as a test
abbrev pub is_within : Limits → Shape → List ℤ → ℕ → Bool
is_within limits shape q cut =
    nat_le (length (stream shape q cut)) limits.frame
    && (nat_le (part_length shape q cut 0) limits.component
    && (nat_le (part_length shape q cut 1) limits.component
    && nat_le (part_length shape q cut 2) limits.component))

-- cut is the least within the limits
pub record IsLeastCut (limits : Limits) (shape : Shape) (q : List ℤ) (cut : ℕ) : Type 0 where
  pub within : IsWithin limits shape q cut
  pub least : (lower : ℕ) → lower < cut → ¬ IsWithin limits shape q lower

-- the first of the cuts from 0 to 720 within the limits; at 720 nothing is included
unfoldable pub least_cut : Limits → Shape → List ℤ → ℕ
least_cut limits shape q = unwrap_or (find (is_within limits shape q) (range_with_len 0 721)) 720
