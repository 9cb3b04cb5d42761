-- Results of steps one behind another.
use Rattle.std.proofs.Common.{◌≡◌, refl, ap, Result, Ok, Err}
use Rattle.std.specs.Prelude.{OnOk}
use Rattle.codec_terms.specs.Reading.{on_ok}

pub OnOk-known : {A E : Type 0} {P : Type 0} (r : Result A E) → P → OnOk r P
OnOk-known (Ok a) p = p
OnOk-known (Err e) p = tt

module _ {A B E : Type 0} where
  -- what a step of which only the end counts was
  pub on_ok-was_ok : (r : Result A E) (b n : B) → on_ok r (λ a. Ok b) ≡ Ok n → ((a : A) × (r ≡ Ok a)) × (b ≡ n)
  on_ok-was_ok (Ok a) b n h = ((a, refl), cc)
  on_ok-was_ok (Err e) b n h = cc

  pub on_ok-was_err : (r : Result A E) (b : B) (e : E) → on_ok r (λ a. Ok b) ≡ Err e → r ≡ Err e
  on_ok-was_err (Ok a) b e h = cc
  on_ok-was_err (Err e') b e h = let same : e' ≡ e = cc in ap Err same

  -- what steps that are done gave
  pub on_ok-parts : (r : Result A E) (f : A → Result B E) (b : B) → on_ok r f ≡ Ok b → (a : A) × ((r ≡ Ok a) × (f a ≡ Ok b))
  on_ok-parts (Ok a) f b h = (a, (refl, h))
  on_ok-parts (Err e) f b h = cc
