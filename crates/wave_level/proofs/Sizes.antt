-- The sizes of a level's four parts, and of the room that the levels behind it take.
use Rattle.std.proofs.Common.{◌≡◌, ℕ, zero, suc, ◌+◌, ◌-◌, ◌*◌, ◌^◌, ◌<◌, ◌≤◌, ap, ap₂, ◌∙◌, arith, pow-suc}
use Rattle.std.proofs.lemmas.Nat.{pow_pos}
use Rattle.wave_level.specs.Parts.{low_side, high_side}
use Rattle.wave_level.specs.Component.{low_room}

four : (a b x y : ℕ) → x * a + (x * b + (y * a + y * b)) ≡ (a + b) * (x + y)
four a b x y = omega arith

pub four_parts : (columns rows : ℕ)
    → low_side rows * low_side columns + (low_side rows * high_side columns + (high_side rows * low_side columns + high_side rows * high_side columns)) ≡ columns * rows
four_parts columns rows =
    four (low_side columns) (high_side columns) (low_side rows) (high_side rows)
    ∙ (let c : low_side columns + high_side columns ≡ columns = omega arith in let r : low_side rows + high_side rows ≡ rows = omega arith in ap₂ (λ (m n : ℕ). m * n) c r)

-- ---- what the level behind one has

half_enough : (m n p : ℕ) → p ≡ 2 * m → p < n → m < low_side n
half_enough m n p twice more = omega arith

pub deep_enough : (number number' n n' : ℕ) → number < 5 → number' ≡ number + 1 → n' ≡ low_side n → 2 ^ (5 - number) < n → 2 ^ (5 - number') < n'
deep_enough number number' n n' few e f more =
    let behind : 5 - number ≡ suc (5 - number') = omega arith in
    rw f (half_enough (2 ^ (5 - number')) n (2 ^ (5 - number)) (ap (λ (k : ℕ). 2 ^ k) behind ∙ (pow-suc 2 (5 - number') ∙ omega arith)) more)

pub two_at_least : (m n : ℕ) → 2 ^ m < n → 2 ≤ n
two_at_least m n more = omega (arith, pow_pos m)

pub room_here : (n columns rows : ℕ) → low_side rows * low_side columns ≤ low_room n columns rows
unfolding low_room
room_here zero columns rows = omega arith
room_here (suc n) columns rows = omega arith

pub room_behind : (number columns rows : ℕ) → number < 5 → low_room (5 - number) columns rows ≡ low_side rows * low_side columns + low_room (5 - (number + 1)) (low_side columns) (low_side rows)
unfolding low_room
room_behind number columns rows few =
    let behind : 5 - number ≡ suc (5 - (number + 1)) = omega arith in
    ap (λ (m : ℕ). low_room m columns rows) behind

pub room_last : (number columns rows : ℕ) → 5 ≤ number → low_room (5 - number) columns rows ≡ low_side rows * low_side columns
unfolding low_room
room_last number columns rows last =
    let none : 5 - number ≡ 0 = omega arith in
    ap (λ (m : ℕ). low_room m columns rows) none
