-- Cuts that aren't within the limits, and the least that is of those that were looked at.
use Rattle.std.specs.Prelude.{◌<◌, ◌≤◌, ℕ, Option, Some, None, List, ℤ}
use Rattle.mast_base.specs.declared.limits.Limits.{Limits}
use Rattle.codec_terms.specs.declared.picture.Shape.{Shape}
use Rattle.codec_terms.specs.Cut.{IsWithin}
use Rattle.floor_laws.specs.Searches.{IsSearched}

-- no lower cut is within the limits
abbrev pub AreNoneBelow : Limits → Shape → List ℤ → ℕ → Type 0
AreNoneBelow limits shape q cut = (lower : ℕ) → lower < cut → ¬ IsWithin limits shape q lower

-- the least within the limits of the cuts from `from` to `first`, where there is one
abbrev pub IsBest : Limits → Shape → List ℤ → ℕ → ℕ → Option ℕ → Type 0
IsBest limits shape q from first None = (cut : ℕ) → from ≤ cut → cut ≤ first → ¬ IsWithin limits shape q cut
IsBest limits shape q from first (Some best) = (best ≤ first) × IsSearched limits shape q from best
