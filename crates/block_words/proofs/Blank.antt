-- Words of which nothing is marked.
use Rattle.std.proofs.Common.{◌≡◌, ℕ, zero, suc, ◌+◌, ◌*◌, refl, Bool, false, List, get_or, replicate}
use Rattle.std.specs.Prelude.{nat_lt}
use Rattle.std.proofs.lemmas.Bool.{and_right}
use Rattle.codec_terms.specs.Contexts.{is_in}
use Rattle.block_words.specs.Words.{IsWord}

pub none-in : (width n X Y : ℕ) → is_in width (replicate n false) X Y ≡ false
unfolding is_in
none-in width n zero Y = refl
none-in width n (suc X) zero = refl
none-in width n (suc X) (suc Y) = and_right (nat_lt X width) (get_or (replicate n false) (Y * width + X) false) (none-at n (Y * width + X))
  where
    none-at : (n i : ℕ) → get_or (replicate n false) i false ≡ false
    none-at zero i = refl
    none-at (suc n) zero = refl
    none-at (suc n) (suc i) = none-at n i

pub blank-word : (width n x y : ℕ) (negative : List Bool) → IsWord width (replicate n false) negative x y 0
blank-word width n x y negative = record {
  left = rw (none-in width n x (suc y)) refl;
  right = rw (none-in width n (suc (suc x)) (suc y)) refl;
  above = rw (none-in width n (suc x) y) refl;
  below = rw (none-in width n (suc x) (suc (suc y))) refl;
  above_left = rw (none-in width n x y) refl;
  above_right = rw (none-in width n (suc (suc x)) y) refl;
  below_left = rw (none-in width n x (suc (suc y))) refl;
  below_right = rw (none-in width n (suc (suc x)) (suc (suc y))) refl;
  left_sign = rw (none-in width n x (suc y)) refl;
  right_sign = rw (none-in width n (suc (suc x)) (suc y)) refl;
  above_sign = rw (none-in width n (suc x) y) refl;
  below_sign = rw (none-in width n (suc x) (suc (suc y))) refl;
  itself = rw (none-in width n (suc x) (suc y)) refl;
}
