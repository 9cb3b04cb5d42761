-- The limits of a project's frames.
use Rattle.std.proofs.Common.{ℕ, ◌*◌, ◌<◌, ◌≤◌, ◌/◌, arith}
use Rattle.std.specs.Prelude.{IsTrue}
use Rattle.std.proofs.Math.Nat.{div-lt_iff_lt-mul}
use Rattle.std.proofs.lemmas.Bool.Decides.{nat_tests}
use Rattle.std.proofs.lemmas.Nat.{le-div}
use Rattle.film_plan.specs.Plan.{limits_of}
use Rattle.film_project.specs.Facts.{ProjectFacts}
use Rattle.film_project.specs.Members.{is_frame_rate}
use Rattle.film_project.specs.Rules.{IsProject}

-- the limits that an encoder takes
pub record AreLimits (project : ProjectFacts) : Type 0 where
  pub least_frame : 26041 ≤ (limits_of project).frame
  pub greatest_frame : (limits_of project).frame ≤ 1302083
  pub least_component : 20833 ≤ (limits_of project).component
  pub greatest_component : (limits_of project).component ≤ 1041666

slow : (fps : ℕ) → IsTrue (is_frame_rate fps) → 24 ≤ fps
slow fps known = grind (arith, nat_tests)

fast : (fps : ℕ) → IsTrue (is_frame_rate fps) → fps ≤ 48
fast fps known = grind (arith, nat_tests)

below : (a fps most : ℕ) → 0 < fps → a < most * fps → a / fps < most
below a fps most some less = (div-lt_iff_lt-mul {k = fps} {x = a} {y = most} some).1 less

above : (a fps least : ℕ) → 0 < fps → least * fps ≤ a → least ≤ a / fps
above a fps least some more = le-div least a fps some more

pub are_limits : (project : ProjectFacts) → IsProject project → AreLimits project
are_limits project rules =
    let least = slow project.fps rules.fps_known in
    let most = fast project.fps rules.fps_known in
    record {
      least_frame = above (project.rate * 125000) project.fps 26041 (omega arith) (omega arith);
      greatest_frame = (let less = below (project.rate * 125000) project.fps 1302084 (omega arith) (omega arith) in omega (arith, less));
      least_component = above (project.rate * 100000) project.fps 20833 (omega arith) (omega arith);
      greatest_component = (let less = below (project.rate * 100000) project.fps 1041667 (omega arith) (omega arith) in omega (arith, less));
    }
