-- A step of a sample keeps the number of samples, in both directions.
use Rattle.std.proofs.Common.{◌≡◌, ℕ, ◌+◌, ◌*◌, Bool, true, refl, arith, length, length-set}
use Rattle.codec_terms.specs.BlockDecisions.{Block, Walk, with_decision, sign_told, bit_told, visited_at, propagated}
use Rattle.codec_terms.specs.BlockReading.{Area, Known, behind_bit, sign_read, zero_bit_read, marked_visited, propagation_at}

-- ---- the encoder

significant-with_decision : (context : ℕ) (bit : Bool) (w : Walk) → (with_decision context bit w).significant ≡ w.significant
unfolding with_decision
significant-with_decision context bit w = refl

length-sign_told : (b : Block) (x y : ℕ) (w : Walk) → length (sign_told b x y w).significant ≡ length w.significant
unfolding sign_told
length-sign_told b x y w = length-set w.significant (y * b.width + x) true

length-bit_told : (b : Block) (p x y : ℕ) (w : Walk) → length (bit_told b p x y w).significant ≡ length w.significant
unfolding bit_told
length-bit_told b p x y w = grind (arith, length-sign_told, significant-with_decision)

significant-visited_at : (b : Block) (x y : ℕ) (w : Walk) → (visited_at b x y w).significant ≡ w.significant
unfolding visited_at
significant-visited_at b x y w = refl

pub length-propagated : (b : Block) (p x y : ℕ) (w : Walk) → length (propagated b p x w y).significant ≡ length w.significant
unfolding propagated
length-propagated b p x y w = grind (arith, significant-visited_at, length-bit_told)

-- ---- the decoder

significant-behind_bit : (context : ℕ) (k : Known) → (behind_bit context k).significant ≡ k.significant
unfolding behind_bit
significant-behind_bit context k = refl

length-sign_read : (a : Area) (p x y : ℕ) (k : Known) → length (sign_read a p x y k).significant ≡ length k.significant
unfolding sign_read
length-sign_read a p x y k = length-set k.significant (y * a.width + x) true

length-zero_bit_read : (a : Area) (p x y : ℕ) (k : Known) → length (zero_bit_read a p x y k).significant ≡ length k.significant
unfolding zero_bit_read
length-zero_bit_read a p x y k = grind (arith, length-sign_read, significant-behind_bit)

significant-marked_visited : (a : Area) (x y : ℕ) (k : Known) → (marked_visited a x y k).significant ≡ k.significant
unfolding marked_visited
significant-marked_visited a x y k = refl

pub length-propagation_at : (a : Area) (p x y : ℕ) (k : Known) → length (propagation_at a p x k y).significant ≡ length k.significant
unfolding propagation_at
length-propagation_at a p x y k = grind (arith, significant-marked_visited, length-zero_bit_read)
