-- How a counter keeps the bits that it hasn't counted yet.
use Rattle.std.specs.Prelude.{ℕ, ◌<◌, ◌≤◌}

pub record IsPending (behind pending : ℕ) : Type 0 where
  pub byte : behind ≤ 7
  pub word : pending < 32
