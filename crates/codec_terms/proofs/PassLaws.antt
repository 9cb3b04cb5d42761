-- The passes of a code-block: how many they are, and which of them a decoder takes.
use Rattle.std.proofs.Common.{◌≡◌, ℕ, ◌+◌, ◌*◌, zero, suc, refl, arith, length, take}
use Rattle.codec_terms.specs.Passes.{further_passes, passes_down_to, pass_count}

length-further_passes : (p n : ℕ) → length (further_passes p n) ≡ 3 * n
unfolding further_passes
length-further_passes p zero = refl
length-further_passes p (suc n) = omega (arith, length-further_passes p n)

pub length-passes_down_to : (p n : ℕ) → length (passes_down_to p n) ≡ pass_count n
unfolding passes_down_to
length-passes_down_to p zero = refl
length-passes_down_to p (suc n) = omega (arith, length-further_passes p n)

take-further_passes : (p n m k : ℕ) → m ≡ p + n → k ≡ 3 * n → take k (further_passes 0 m) ≡ further_passes p n
unfolding further_passes
take-further_passes p zero m zero all some = refl
take-further_passes p zero m (suc k) all some = absurd (omega arith)
take-further_passes p (suc n) zero k all some = absurd (omega arith)
take-further_passes p (suc n) (suc m) zero all some = absurd (omega arith)
take-further_passes p (suc n) (suc m) (suc zero) all some = absurd (omega arith)
take-further_passes p (suc n) (suc m) (suc (suc zero)) all some = absurd (omega arith)
take-further_passes p (suc n) (suc m) (suc (suc (suc k))) all some =
    let here : 0 + m ≡ p + n = omega arith in
    rw (here, take-further_passes p n m k (omega arith) (omega arith)) refl

-- the passes of the highest n of p + n bit-planes are the first of those of all
pub take-passes_down_to : (p n m k : ℕ) → m ≡ p + n → k ≡ pass_count n → take k (passes_down_to 0 m) ≡ passes_down_to p n
unfolding passes_down_to
take-passes_down_to p zero m zero all some = refl
take-passes_down_to p zero m (suc k) all some = absurd (omega arith)
take-passes_down_to p (suc n) zero k all some = absurd (omega arith)
take-passes_down_to p (suc n) (suc m) zero all some = absurd (omega arith)
take-passes_down_to p (suc n) (suc m) (suc k) all some =
    let here : 0 + m ≡ p + n = omega arith in
    rw (here, take-further_passes p n m k (omega arith) (omega arith)) refl
