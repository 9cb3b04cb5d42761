-- What writes leave of a track file's bytes, and what steps count.
use Rattle.std.proofs.Common.{◌≡◌, ℕ, ◌+◌, List, [], ◌++◌, length, take, drop, ap, append-nil, arith}
use Rattle.std.proofs.lemmas.List.{drop_all, drop_at, take_all}
use Rattle.mast_world.specs.Content.{overwritten}
use Rattle.mast_world.specs.Count.{counted}

-- behind the end
pub overwritten-end : (old bytes : List ℕ) (at : ℕ) → length old ≡ at → overwritten old at bytes ≡ old ++ bytes
overwritten-end old bytes at end =
    let none : drop (at + length bytes) old ≡ [] = drop_all (at + length bytes) old (omega arith) in
    let all : take at old ≡ old = take_all at old (omega arith) in
    rw (none, all) (append-nil (old ++ bytes))

-- over a front of the same length
pub overwritten-front : (front rest bytes : List ℕ) → length front ≡ length bytes → overwritten (front ++ rest) 0 bytes ≡ bytes ++ rest
overwritten-front front rest bytes same =
    ap (λ end. bytes ++ end) (drop_at front rest (0 + length bytes) (omega arith))

-- over nothing, once all is cut off
pub overwritten-cut : (old bytes : List ℕ) → overwritten (take 0 old) 0 bytes ≡ bytes ++ []
overwritten-cut old bytes = ap (λ end. bytes ++ end) (drop_all (0 + length bytes) [] (omega arith))

-- one count behind another
pub counted-counted : (count m n : ℕ) → counted (counted count m) n ≡ counted count (m + n)
counted-counted count m n = omega arith
