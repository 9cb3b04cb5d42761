-- What a project file leads to before a frame is read: a project whose inputs are there, or why there is none.
use Rattle.std.specs.Prelude.{ℕ, zero, suc, ◌==◌, ◌&&◌, ◌||◌, Bool, true, false, if◌then◌else◌, List, [], length, map, Option, Some, None, unwrap_or, Result, Ok, Err}
use Rattle.std.specs.List.{list_any, range_with_len}
use Rattle.std.specs.Option.{option_or}
use Rattle.film_plan.specs.Needs.{Short, first_short}
use Rattle.film_project.specs.Accepts.{accepts}
use Rattle.film_project.specs.Facts.{ProjectFacts, asset_at}
use Rattle.film_project.specs.declared.asset.AssetKind.{AssetKind}
use Rattle.film_project.specs.declared.asset.AssetKind.TheVariants.{Rgb48, Ppm, J2c, Pcm24}
use Rattle.film_project.specs.declared.refusal.ProjectRefusal.{ProjectRefusal}
use Rattle.mast_world.specs.Content.{Files}
use Rattle.film_plan.specs.declared.refusal.PlanRefusal.TheVariants.{InputShort}
use Rattle.film_inputs.specs.declared.ends.InputEnd.TheVariants.{Missing}
use Rattle.film_inputs.specs.declared.ends.PlanEnd.{PlanEnd}
use Rattle.film_inputs.specs.declared.ends.PlanEnd.TheVariants.{Input, Plan, Project}

-- assets of these kinds lie in a single file
abbrev pub is_single : AssetKind → Bool
is_single Rgb48 = true
is_single Pcm24 = true
is_single Ppm = false
is_single J2c = false

-- some clip names the asset at this place
abbrev pub is_named : ProjectFacts → ℕ → Bool
is_named project place = list_any (λ clip. clip.asset == place) project.picture || list_any (λ clip. clip.asset == place) project.sound

-- the file of the asset at this place is looked for
abbrev pub is_wanted : ProjectFacts → ℕ → Bool
is_wanted project place = is_single (asset_at project place).kind && is_named project place

-- the size of the asset at this place; one that isn't looked for counts as empty
abbrev pub size_at : Files → ProjectFacts → ℕ → ℕ
size_at files project place = if is_wanted project place then length (unwrap_or (files (asset_at project place).file) []) else 0

abbrev pub sizes_of : Files → ProjectFacts → List ℕ
sizes_of files project = map (size_at files project) (range_with_len 0 (length project.assets))

-- the name of a file that isn't there
abbrev pub missing_name : List ℕ → Option (List ℕ) → Option (List ℕ)
missing_name name None = Some name
missing_name name (Some bytes) = None

-- that of the asset at this place, where it is looked for
abbrev pub missing_at : Files → ProjectFacts → ℕ → Option (List ℕ)
missing_at files project place = if is_wanted project place then missing_name (asset_at project place).file (files (asset_at project place).file) else None

-- the first one among the first n assets
abbrev pub missing_before : Files → ProjectFacts → ℕ → Option (List ℕ)
missing_before files project zero = None
missing_before files project (suc n) = option_or (missing_before files project n) (missing_at files project n)

abbrev pub missing_input : Files → ProjectFacts → Option (List ℕ)
missing_input files project = missing_before files project (length project.assets)

-- missing files come before short ones
abbrev pub with_inputs : ProjectFacts → Option (List ℕ) → Option Short → Result ProjectFacts PlanEnd
with_inputs project (Some name) short = Err (Input (Missing name))
with_inputs project None (Some short) = Err (Plan (InputShort short.asset short.size short.need))
with_inputs project None None = Ok project

abbrev pub with_project : Files → Result ProjectFacts ProjectRefusal → Result ProjectFacts PlanEnd
with_project files (Err refusal) = Err (Project refusal)
with_project files (Ok project) = with_inputs project (missing_input files project) (first_short project (sizes_of files project))

abbrev pub with_text : Files → List ℕ → Option (List ℕ) → Result ProjectFacts PlanEnd
with_text files name None = Err (Input (Missing name))
with_text files name (Some text) = with_project files (accepts text)

-- the project of the file of this name, or why there is no plan of it, the first cause in this order
abbrev pub planned : Files → List ℕ → Result ProjectFacts PlanEnd
planned files name = with_text files name (files name)
