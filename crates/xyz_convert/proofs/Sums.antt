-- Weighed sums, in halves of 12 bits.
use Rattle.std.proofs.Common.{◌≡◌, ℕ, ◌+◌, ◌*◌, ◌/◌, ◌%◌, ◌^◌, ◌≤◌, ap, ◌∙◌, arith}
use Rattle.std.specs.Prelude.{bit_and}
use Rattle.std.proofs.lemmas.Nat.{and_mask, mul-le}
use Rattle.xyz_convert.specs.Entries.{sum_of, most_sum}
use Rattle.codec_terms.specs.Colour.{Weights}

pub halves : (w l : ℕ) → w * l ≡ 4096 * (w * (l / 4096)) + w * bit_and l 4095
halves w l =
    let low : bit_and l 4095 ≡ l % 4096 = and_mask l 12 in
    let whole : l ≡ 4096 * (l / 4096) + l % 4096 = omega arith in
    rw low (ap (λ x. w * x) whole ∙ omega arith)

pub low-small : (w l : ℕ) → w * bit_and l 4095 ≤ 4095 * w
low-small w l =
    let low : bit_and l 4095 ≡ l % 4096 = and_mask l 12 in
    rw low (let less : w * (l % 4096) ≤ w * 4095 = mul-le w (l % 4096) w 4095 (omega arith) (omega arith) in omega arith)

pub high-small : (w l : ℕ) → l ≤ 2 ^ 24 → w * (l / 4096) ≤ 4096 * w
high-small w l h = let less : w * (l / 4096) ≤ w * 4096 = mul-le w (l / 4096) w 4096 (omega arith) (omega arith) in omega arith

whole-small : (w l : ℕ) → l ≤ 2 ^ 24 → w * l ≤ 2 ^ 24 * w
whole-small w l h = let less : w * l ≤ w * 2 ^ 24 = mul-le w l w (2 ^ 24) (omega arith) h in omega arith

joined : (h l total : ℕ) → total ≡ 4096 * h + l → (h + l / 4096) / 16 ≡ total / 65536
joined h l total e = omega arith

pub sum_of-halves :
    (w : Weights) (r g b : ℕ) →
    (w.red * (r / 4096) + w.green * (g / 4096) + w.blue * (b / 4096)
    + (w.red * bit_and r 4095 + w.green * bit_and g 4095 + w.blue * bit_and b 4095) / 4096) / 16
    ≡ sum_of w r g b
unfolding sum_of
sum_of-halves w r g b =
    joined (w.red * (r / 4096) + w.green * (g / 4096) + w.blue * (b / 4096)) (w.red * bit_and r 4095 + w.green * bit_and g 4095 + w.blue * bit_and b 4095)
    (w.red * r + w.green * g + w.blue * b) (omega (arith, halves w.red r, halves w.green g, halves w.blue b))

pub sum_of-small : (w : Weights) (r g b : ℕ) → w.red + w.green + w.blue ≤ 71357 → r ≤ 2 ^ 24 → g ≤ 2 ^ 24 → b ≤ 2 ^ 24 → sum_of w r g b ≤ most_sum
unfolding sum_of
sum_of-small w r g b light red green blue =
    omega (arith, whole-small w.red r red, whole-small w.green g green, whole-small w.blue b blue)
