-- Words that are the quantised values of a row have no more bits than the sub-band has planes.
use Rattle.std.proofs.Common.{◌≡◌, ℕ, zero, suc, ◌-◌, ◌/◌, ◌^◌, ◌<◌, Bool, true, false, List, [], ◌∷◌, length, get_or, refl, ap, arith, min}
use Rattle.std.specs.Prelude.{ℤ, pos, negsuc, neg_ℤ, unsigned_abs, All, map, if◌then◌else◌}
use Rattle.std.proofs.lemmas.Nat.{pow_pos}
use Rattle.codec_terms.specs.declared.picture.Band.{Band}
use Rattle.codec_terms.specs.Bands.{step, plane_limit}
use Rattle.codec_terms.specs.Quantiser.{with_sign_of, quantised}
use Rattle.quantiser.specs.Signed.{magnitude, is_negative, signed_value, signed_values}

abs-neg : (n : ℕ) → unsigned_abs (neg_ℤ (pos n)) ≡ n
abs-neg zero = refl
abs-neg (suc n) = refl

abs-either : (b : Bool) (n : ℕ) → unsigned_abs (if b then neg_ℤ (pos n) else pos n) ≡ n
abs-either true n = abs-neg n
abs-either false n = refl

abs-signed : (v : ℤ) (n : ℕ) → unsigned_abs (with_sign_of v n) ≡ n
abs-signed (pos m) n = refl
abs-signed (negsuc m) n = abs-neg n

one_within : (band : Band) (word : ℕ) (v : ℤ) → signed_value word ≡ quantised band v → magnitude word < 2 ^ plane_limit band
one_within band word v e =
    let of_word = abs-either (is_negative word) (magnitude word) in
    let of_value = abs-signed v (min (unsigned_abs v / step band) (2 ^ plane_limit band - 1)) in
    let same : unsigned_abs (signed_value word) ≡ unsigned_abs (quantised band v) = ap unsigned_abs e in
    omega (arith, pow_pos (plane_limit band))

items_same : {A B C : Type 0} (f : A → C) (g : B → C) (xs : List A) (ys : List B) (k : ℕ) (a : A) (b : B)
    → map f xs ≡ map g ys → k < length xs → f (get_or xs k a) ≡ g (get_or ys k b)
items_same f g [] ys k a b e inside = absurd (omega arith)
items_same f g (x ∷ xs) [] k a b e inside = cc
items_same f g (x ∷ xs) (y ∷ ys) zero a b e inside = cc
items_same f g (x ∷ xs) (y ∷ ys) (suc k) a b e inside = items_same f g xs ys k a b (cc) (omega arith)

pub planes-within : (band : Band) (words : List ℕ) (values : List ℤ) → signed_values words ≡ map (quantised band) values
    → All (λ word. magnitude word < 2 ^ plane_limit band) words
planes-within band words values e = λ k d inside.
    one_within band (get_or words k d) (get_or values k (pos 0)) (items_same signed_value (quantised band) words values k d (pos 0) e inside)
