-- Words of laws on contexts.
use Rattle.std.specs.Prelude.{ℕ, ◌<◌, ◌≤◌}
use Rattle.codec_terms.specs.Mq.{Decision}

-- one of the contexts that the arithmetic coder has
abbrev pub IsContext : Decision → Type 0
IsContext d = d.context < 19

-- the contexts of signs, and those of refinement
pub record InSign (context : ℕ) : Type 0 where
  pub low : 9 ≤ context
  pub high : context < 14

pub record InRefinement (context : ℕ) : Type 0 where
  pub low : 14 ≤ context
  pub high : context < 17
