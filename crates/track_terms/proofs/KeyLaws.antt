-- Keys and labels by their groups.
use Rattle.std.proofs.Common.{◌≡◌, ℕ, ◌*◌, List, [], ◌∷◌, length, get_or, refl, arith}
use Rattle.std.specs.Int.{to_be_bytes, w32}
use Rattle.track_terms.specs.Keys.{key_of}

-- the bytes of four groups, one by one
pub key_of-bytes : (groups a b c d : List ℕ) → length groups ≡ 4
    → a ≡ to_be_bytes w32 (get_or groups 0 0) → b ≡ to_be_bytes w32 (get_or groups 1 0)
    → c ≡ to_be_bytes w32 (get_or groups 2 0) → d ≡ to_be_bytes w32 (get_or groups 3 0)
    → get_or a 0 0 ∷ get_or a 1 0 ∷ get_or a 2 0 ∷ get_or a 3 0 ∷ get_or b 0 0 ∷ get_or b 1 0 ∷ get_or b 2 0 ∷ get_or b 3 0
    ∷ get_or c 0 0 ∷ get_or c 1 0 ∷ get_or c 2 0 ∷ get_or c 3 0 ∷ get_or d 0 0 ∷ get_or d 1 0 ∷ get_or d 2 0 ∷ get_or d 3 0 ∷ []
    ≡ key_of groups
unfolding key_of
key_of-bytes (x ∷ y ∷ z ∷ w ∷ []) a b c d four p q r s = rw (p, q, r, s) refl
key_of-bytes [] a b c d four p q r s = absurd (omega arith)
key_of-bytes (x ∷ []) a b c d four p q r s = absurd (omega arith)
key_of-bytes (x ∷ y ∷ []) a b c d four p q r s = absurd (omega arith)
key_of-bytes (x ∷ y ∷ z ∷ []) a b c d four p q r s = absurd (omega arith)
key_of-bytes (x ∷ y ∷ z ∷ w ∷ v ∷ more) a b c d four p q r s = absurd (omega arith)

pub length-key_of : (groups : List ℕ) → length (key_of groups) ≡ 4 * length groups
unfolding key_of
length-key_of [] = refl
length-key_of (group ∷ groups) = omega (arith, length-key_of groups)
