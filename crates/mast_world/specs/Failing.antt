-- Devices in memory fail at the calls of a list, counted from 1.
use Rattle.std.specs.Prelude.{◌≡◌, ℕ, List, Option, Contains, IsSome, IsSomeAnd}
use Rattle.mast_world.specs.Count.{counted}
use Rattle.mast_world.specs.declared.failing.Failing.{Failing}

-- before the first call
abbrev pub planned_failures : List ℕ → Failing
planned_failures planned = record { planned = planned; calls = 0; faults = 0 }

-- What is said of a call on any device that may have such a list: plan is the list, calls is how many calls there were.

-- the next call is to fail
abbrev pub IsDue : Option (List ℕ) → ℕ → Type 0
IsDue plan calls = IsSomeAnd plan (λ list. Contains list (counted calls 1))

-- the device has a list, and the next call isn't in it
abbrev pub IsSpared : Option (List ℕ) → ℕ → Type 0
IsSpared plan calls = IsSomeAnd plan (λ list. ¬ Contains list (counted calls 1))

-- a device with a list keeps it, and counts the call
pub record IsCalled {A : Type 0} (plan : A → Option (List ℕ)) (calls : A → ℕ) (before now : A) : Type 0 where
  pub same_plan : plan now ≡ plan before
  pub counted : IsSome (plan before) → calls now ≡ counted (calls before) 1
