-- A sign's context takes the signs of significant samples alone.
use Rattle.std.proofs.Common.{◌≡◌, ℕ, zero, suc, ◌+◌, ◌*◌, refl, ap, ap₂, Bool, true, false, cond, ◌&&◌, List, get_or, inl, inr, pos, negsuc, ℤ, ◌+ℤ◌}
use Rattle.std.specs.Prelude.{nat_lt}
use Rattle.std.proofs.lemmas.Bool.{cases_Bool, and_parts}
use Rattle.codec_terms.specs.Contexts.{is_in, contribution, horizontal_sign, vertical_sign, sign_context, sign_context_at}

-- the signs of the samples in the set are the same
abbrev pub SameSigns : List Bool → List Bool → List Bool → Type 0
SameSigns set negative other = (i : ℕ) → get_or set i false ≡ true → get_or negative i false ≡ get_or other i false

contribution-same : (width : ℕ) (set negative other : List Bool) (x y : ℕ) → SameSigns set negative other
    → contribution width set negative x y ≡ contribution width set other x y
unfolding contribution is_in
contribution-same width set negative other zero y same = refl
contribution-same width set negative other (suc x) zero same = refl
contribution-same width set negative other (suc x) (suc y) same =
    let i : ℕ = y * width + x in
    elim (cases_Bool (nat_lt x width && get_or set i false)) [
      | inl inside ↦
          ap (λ (t : Bool). cond (nat_lt x width && get_or set i false)
          (cond (nat_lt x width && t) (negsuc 0) (pos 1)) (pos 0))
          (same i (and_parts (nat_lt x width) (get_or set i false) inside).1)
      | inr out ↦ rw out refl
    ]

pub sign_context-same : (width : ℕ) (set negative other : List Bool) (x y : ℕ) → SameSigns set negative other
    → sign_context_at width set negative x y ≡ sign_context_at width set other x y
unfolding sign_context_at horizontal_sign vertical_sign
sign_context-same width set negative other x y same =
    ap₂ (λ (h v : ℤ). sign_context h v)
    (ap₂ (λ (s t : ℤ). s +ℤ t) (contribution-same width set negative other x (suc y) same)
    (contribution-same width set negative other (suc (suc x)) (suc y) same))
    (ap₂ (λ (s t : ℤ). s +ℤ t) (contribution-same width set negative other (suc x) y same)
    (contribution-same width set negative other (suc x) (suc (suc y)) same))
