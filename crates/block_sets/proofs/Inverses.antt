-- Samples and bits go to each other one by one.
use Rattle.std.proofs.Common.{◌≡◌, ℕ, ◌<◌, List, get_or, ap₂, arith}
use Rattle.std.specs.Int.{bit_at}
use Rattle.block_sets.specs.Places.{word_of, bit_of, column_at, row_at}
use Rattle.block_sets.specs.Sets.{holds}

pub column_at-place : (x y : ℕ) → x < 32 → y < 32 → column_at (word_of x y) (bit_of x y) ≡ x
column_at-place x y p q = omega arith

pub row_at-place : (x y : ℕ) → x < 32 → y < 32 → row_at (word_of x y) (bit_of x y) ≡ y
row_at-place x y p q = omega arith

pub word_of-sample : (w i : ℕ) → w < 16 → i < 64 → word_of (column_at w i) (row_at w i) ≡ w
word_of-sample w i p q = omega arith

pub bit_of-sample : (w i : ℕ) → w < 16 → i < 64 → bit_of (column_at w i) (row_at w i) ≡ i
bit_of-sample w i p q = omega arith

pub holds-sample : (set : List ℕ) (w i : ℕ) → w < 16 → i < 64 → holds set (column_at w i) (row_at w i) ≡ bit_at (get_or set w 0) i
unfolding holds
holds-sample set w i p q =
    ap₂ (λ (v j : ℕ). bit_at (get_or set v 0) j) (word_of-sample w i p q) (bit_of-sample w i p q)
