-- Why a project has no plan, ending by ending.
use Rattle.std.specs.Prelude.{◌≡◌, ◌≢◌, ◌⊎◌, ◌<◌, ℕ, true, List, length, Some, None, Err, ⊤}
use Rattle.film_plan.specs.declared.refusal.PlanRefusal.TheVariants as plan
use Rattle.film_project.specs.Facts.{ProjectFacts, asset_at}
use Rattle.film_project.specs.Rules.{IsProject}
use Rattle.film_project.specs.declared.refusal.ProjectRefusal.TheVariants as project
use Rattle.mast_world.specs.Content.{Files}
use Rattle.mast_world.specs.Count.{HasRisen}
use Rattle.film_inputs.specs.Inputs.{is_wanted, missing_at, missing_input, planned}
use Rattle.film_inputs.specs.declared.ends.InputEnd.{InputEnd}
use Rattle.film_inputs.specs.declared.ends.InputEnd.TheVariants.{Missing, SourceFault, NoMemory}
use Rattle.film_inputs.specs.declared.ends.PlanEnd.{PlanEnd}
use Rattle.film_inputs.specs.declared.ends.PlanEnd.TheVariants.{Input, Project, Plan}

-- ---- names

-- the single file of the asset at this place, for which a clip asks
pub record IsFileAt (project : ProjectFacts) (place : ℕ) (name : List ℕ) : Type 0 where
  pub there : place < length project.assets
  pub wanted : is_wanted project place ≡ true
  pub named : name ≡ (asset_at project place).file

abbrev pub IsSingleFile : ProjectFacts → List ℕ → Type 0
IsSingleFile project name = (place : ℕ) × IsFileAt project place name

-- the project's file, or a single file of a project that keeps the rules
abbrev pub IsInputName : List ℕ → List ℕ → Type 0
IsInputName file name = (name ≡ file) ⊎ ((project : ProjectFacts) × IsProject project × IsSingleFile project name)

-- an asset's single file isn't there
pub record IsGoneAt (tells : Type 0) (files : Files) (project : ProjectFacts) (place : ℕ) (name : List ℕ) : Type 0 where
  pub file : IsFileAt project place name
  pub told : tells → missing_at files project place ≡ Some name

-- the first single file that isn't there
pub record IsGoneInput (tells : Type 0) (files : Files) (project : ProjectFacts) (name : List ℕ) : Type 0 where
  pub file : IsSingleFile project name
  pub told : tells → missing_input files project ≡ Some name

-- ---- endings. A source is given by what it counts, and by its states before and now.

-- of a search, or of reading a file: IsGone says what is known of the name
abbrev pub IsInputCause : {A : Type 0} → (A → ℕ) → (A → ℕ) → A → A → (List ℕ → Type 0) → InputEnd → Type 0
IsInputCause absent faults before now IsGone (Missing name) = IsGone name × HasRisen (absent before) (absent now)
IsInputCause absent faults before now IsGone SourceFault = HasRisen (faults before) (faults now)
IsInputCause absent faults before now IsGone NoMemory = ⊤

-- what the files lead to, where they are told
abbrev pub IsPlanned : Type 0 → Files → List ℕ → PlanEnd → Type 0
IsPlanned tells files name end = tells → planned files name ≡ Err end

-- of planning the project of a file
abbrev pub IsPlanCause : {A : Type 0} → Type 0 → Files → List ℕ → (A → ℕ) → (A → ℕ) → A → A → PlanEnd → Type 0
IsPlanCause tells files name absent faults before now (Input end) =
    IsInputCause absent faults before now (λ n. IsInputName name n × IsPlanned tells files name (Input (Missing n))) end
IsPlanCause tells files name absent faults before now (Project refusal) =
    refusal ≢ project.NoMemory → IsPlanned tells files name (Project refusal)
IsPlanCause tells files name absent faults before now (Plan (plan.InputShort asset size need)) =
    (size < need) × IsPlanned tells files name (Plan (plan.InputShort asset size need))
IsPlanCause tells files name absent faults before now (Plan plan.NoMemory) = ⊤

-- of reading the text of its file, which is too long or can't be read
abbrev pub IsTextCause : {A : Type 0} → Type 0 → Files → List ℕ → (A → ℕ) → (A → ℕ) → A → A → PlanEnd → Type 0
IsTextCause tells files name absent faults before now (Input end) =
    IsInputCause absent faults before now (λ n. (n ≡ name) × (tells → files n ≡ None)) end
IsTextCause tells files name absent faults before now (Project refusal) = IsPlanned tells files name (Project refusal)
IsTextCause tells files name absent faults before now (Plan refusal) = ⊥
