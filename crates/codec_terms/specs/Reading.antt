-- Steps that read and may be refused: each goes on from a place, and gives a value and the next place, or
-- a refusal.
use Rattle.std.specs.Prelude.{Result, Ok, Err}

abbrev pub Steps : Type 0 → Type 0 → Type 0 → Type 0
Steps P E A = P → Result (A × P) E

abbrev pub done : {P E A : Type 0} → A → Steps P E A
done a p = Ok (a, p)

abbrev pub refused : {P E A : Type 0} → E → Steps P E A
refused e p = Err e

abbrev pub on_ok : {A B E : Type 0} → Result A E → (A → Result B E) → Result B E
on_ok (Ok a) f = f a
on_ok (Err e) f = Err e

infixr 10 ◌>>=◌
abbrev pub ◌>>=◌ : {P E A B : Type 0} → Steps P E A → (A → Steps P E B) → Steps P E B
(m >>= f) p = on_ok (m p) (λ r. f r.0 r.1)
