-- A search for the least cut.
use Rattle.std.specs.Prelude.{ℕ, ◌≤◌, ◌<◌, List, ℤ}
use Rattle.mast_base.specs.declared.limits.Limits.{Limits}
use Rattle.codec_terms.specs.declared.picture.Shape.{Shape}
use Rattle.codec_terms.specs.Cut.{IsWithin}

-- best is the least within the limits of the cuts that were looked at, which are those from `from` to best
pub record IsSearched (limits : Limits) (shape : Shape) (q : List ℤ) (from best : ℕ) : Type 0 where
  pub last : best ≤ 720
  pub reached : from ≤ best
  pub within : IsWithin limits shape q best
  pub least : (cut : ℕ) → from ≤ cut → cut < best → ¬ IsWithin limits shape q cut
