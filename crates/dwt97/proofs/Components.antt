-- The samples of a component, by their places.
use Rattle.std.proofs.Common.{◌≡◌, ℕ, zero, suc, ◌<◌, ◌≤◌, refl, ap, arith, List, [], ◌∷◌, length, get_or, ℤ}
use Rattle.std.specs.Prelude.{⊤}
use Rattle.codec_terms.specs.Wavelet.{sample, shifted, component}
use Rattle.dwt97.proofs.Made.{IsMadeTo, IsMadeTo-all}

abbrev pub AnyPlace : ℕ → Type 0
AnyPlace x = ⊤

abbrev pub component_at : (ℤ → ℤ → ℤ → ℤ) → List ℕ → List ℕ → List ℕ → ℕ → ℤ
component_at f xs ys zs i = f (shifted (get_or xs i 0)) (shifted (get_or ys i 0)) (shifted (get_or zs i 0))

length-component : (f : ℤ → ℤ → ℤ → ℤ) (xs ys zs : List ℕ) → length ys ≡ length xs → length zs ≡ length xs → length (component f xs ys zs) ≡ length xs
unfolding component
length-component f [] ys zs e g = refl
length-component f (x ∷ xs) [] zs e g = absurd (omega arith)
length-component f (x ∷ xs) (y ∷ ys) [] e g = absurd (omega arith)
length-component f (x ∷ xs) (y ∷ ys) (z ∷ zs) e g = ap suc (length-component f xs ys zs (omega arith) (omega arith))

sample-component : (f : ℤ → ℤ → ℤ → ℤ) (xs ys zs : List ℕ) (i : ℕ) → length ys ≡ length xs → length zs ≡ length xs → i < length xs → sample (component f xs ys zs) i ≡ component_at f xs ys zs i
unfolding component
sample-component f [] ys zs i e g inside = absurd (omega arith)
sample-component f (x ∷ xs) [] zs i e g inside = absurd (omega arith)
sample-component f (x ∷ xs) (y ∷ ys) [] i e g inside = absurd (omega arith)
sample-component f (x ∷ xs) (y ∷ ys) (z ∷ zs) zero e g inside = refl
sample-component f (x ∷ xs) (y ∷ ys) (z ∷ zs) (suc i) e g inside = sample-component f xs ys zs i (omega arith) (omega arith) (omega arith)

pub component-all : (f : ℤ → ℤ → ℤ → ℤ) (n : ℕ) (xs ys zs : List ℕ) (old new : List ℤ) → length new ≡ length xs → length ys ≡ length xs → length zs ≡ length xs → length xs ≤ n
    → IsMadeTo AnyPlace (component_at f xs ys zs) n old new → new ≡ component f xs ys zs
component-all f n xs ys zs old new size e g whole so =
    let long = length-component f xs ys zs e g in
    IsMadeTo-all AnyPlace (component_at f xs ys zs) n old new (component f xs ys zs) (omega arith) (omega arith) so (λ x h. tt)
    (λ x h. sample-component f xs ys zs x e g (omega arith))
