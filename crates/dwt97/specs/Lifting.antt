-- When steps of the transform can be computed in a signed type, so that they are those of the definition.
use Rattle.std.specs.Prelude.{ℕ, suc, ◌-◌, ◌<◌, ◌≤◌, min, All, unsigned_abs, List, length, ℤ, ◌+ℤ◌, ◌*ℤ◌, FitsSigned}
use Rattle.std.specs.Int.{Width, w64}
use Rattle.codec_terms.specs.Wavelet.{sample, scaled}
use Rattle.wave_laws.specs.Rows.{lifted_by}

-- the sum of the neighbours and the lifted sample fit the type, and the product fits 64 bits
pub record FitsLift (w : Width) (k own before behind : ℤ) : Type 0 where
  pub sum : FitsSigned w (before +ℤ behind)
  pub product : FitsSigned w64 (k *ℤ (before +ℤ behind))
  pub lifted : FitsSigned w (lifted_by k own before behind)

-- the same for each sample of a list, with its neighbours by their places
abbrev pub FitsLifts : Width → ℤ → List ℤ → (ℕ → ℤ) → (ℕ → ℤ) → Type 0
FitsLifts w k own before behind = (x : ℕ) → x < length own → FitsLift w k (sample own x) (before x) (behind x)

-- each sample fits the type when it is scaled
abbrev pub FitsScaled : Width → ℤ → List ℤ → Type 0
FitsScaled w k own = (x : ℕ) → x < length own → FitsSigned w (scaled k (sample own x))

-- each sample's magnitude is at most m
abbrev pub AreBounded : ℕ → List ℤ → Type 0
AreBounded m line = All (λ v. unsigned_abs v ≤ m) line

-- in a line, the even sample behind odd sample i, and the odd samples before and behind even sample i
abbrev pub even_behind : List ℤ → ℕ → ℤ
even_behind even i = sample even (min (suc i) (length even - 1))

abbrev pub odd_before : List ℤ → ℕ → ℤ
odd_before odd i = sample odd (i - 1)

abbrev pub odd_behind : List ℤ → ℕ → ℤ
odd_behind odd i = sample odd (min i (length odd - 1))
