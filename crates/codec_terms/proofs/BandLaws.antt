-- The sub-bands of a component have as many samples as the picture.
use Rattle.std.proofs.Common.{◌≡◌, ℕ, ◌+◌, ◌*◌, arith, true, false, sum_by}
use Rattle.codec_terms.specs.declared.picture.Shape.{Shape}
use Rattle.codec_terms.specs.Bands.{band_side, band_length, component_bands, resolution_bands}

-- the low and the high part of a line are the low part of the level before
split1 : (n : ℕ) → n ≡ band_side n 1 false + band_side n 1 true
split1 n = omega arith

split2 : (n : ℕ) → band_side n 1 false ≡ band_side n 2 false + band_side n 2 true
split2 n = omega arith

split3 : (n : ℕ) → band_side n 2 false ≡ band_side n 3 false + band_side n 3 true
split3 n = omega arith

split4 : (n : ℕ) → band_side n 3 false ≡ band_side n 4 false + band_side n 4 true
split4 n = omega arith

split5 : (n : ℕ) → band_side n 4 false ≡ band_side n 5 false + band_side n 5 true
split5 n = omega arith

-- the four parts of a product of two sums
four_parts : (n m low high low' high' : ℕ) → n ≡ low + high → m ≡ low' + high' → n * m ≡ low * low' + (high * low' + (low * high' + high * high'))
four_parts n m low high low' high' p q = rw (p, q) (omega arith)

five_levels : (n m a1 b1 a2 b2 a3 b3 a4 b4 a5 b5 c1 d1 c2 d2 c3 d3 c4 d4 c5 d5 : ℕ)
    → n ≡ a1 + b1 → a1 ≡ a2 + b2 → a2 ≡ a3 + b3 → a3 ≡ a4 + b4 → a4 ≡ a5 + b5
    → m ≡ c1 + d1 → c1 ≡ c2 + d2 → c2 ≡ c3 + d3 → c3 ≡ c4 + d4 → c4 ≡ c5 + d5
    → 0 + a5 * c5 + b5 * c5 + a5 * d5 + b5 * d5 + b4 * c4 + a4 * d4 + b4 * d4 + b3 * c3 + a3 * d3 + b3 * d3 + b2 * c2 + a2 * d2 + b2 * d2 + b1 * c1 + a1 * d1 + b1 * d1 ≡ n * m
five_levels n m a1 b1 a2 b2 a3 b3 a4 b4 a5 b5 c1 d1 c2 d2 c3 d3 c4 d4 c5 d5 p1 p2 p3 p4 p5 q1 q2 q3 q4 q5 =
    join (n * m) (a1 * c1) (a2 * c2) (a3 * c3) (a4 * c4) (a5 * c5)
    (b1 * c1) (a1 * d1) (b1 * d1) (b2 * c2) (a2 * d2) (b2 * d2) (b3 * c3) (a3 * d3) (b3 * d3) (b4 * c4) (a4 * d4) (b4 * d4) (b5 * c5) (a5 * d5) (b5 * d5)
    (four_parts n m a1 b1 c1 d1 p1 q1) (four_parts a1 c1 a2 b2 c2 d2 p2 q2) (four_parts a2 c2 a3 b3 c3 d3 p3 q3) (four_parts a3 c3 a4 b4 c4 d4 p4 q4) (four_parts a4 c4 a5 b5 c5 d5 p5 q5)
  where
    join : (t l1 l2 l3 l4 l5 u1 v1 w1 u2 v2 w2 u3 v3 w3 u4 v4 w4 u5 v5 w5 : ℕ)
        → t ≡ l1 + (u1 + (v1 + w1)) → l1 ≡ l2 + (u2 + (v2 + w2)) → l2 ≡ l3 + (u3 + (v3 + w3)) → l3 ≡ l4 + (u4 + (v4 + w4)) → l4 ≡ l5 + (u5 + (v5 + w5))
        → 0 + l5 + u5 + v5 + w5 + u4 + v4 + w4 + u3 + v3 + w3 + u2 + v2 + w2 + u1 + v1 + w1 ≡ t
    join t l1 l2 l3 l4 l5 u1 v1 w1 u2 v2 w2 u3 v3 w3 u4 v4 w4 u5 v5 w5 e1 e2 e3 e4 e5 = omega arith

pub sum_by-component_bands : (shape : Shape) (component : ℕ) → sum_by (band_length shape) (component_bands component) ≡ shape.width * shape.height
unfolding component_bands resolution_bands
sum_by-component_bands shape component =
    five_levels shape.width shape.height _ _ _ _ _ _ _ _ _ _ _ _ _ _ _ _ _ _ _ _
    (split1 shape.width) (split2 shape.width) (split3 shape.width) (split4 shape.width) (split5 shape.width)
    (split1 shape.height) (split2 shape.height) (split3 shape.height) (split4 shape.height) (split5 shape.height)
