-- From 16-bit samples to 12-bit X'Y'Z' code values: SMPTE ST 428-1, with exponent 1/2.6, peak luminance
-- 52.37 cd/m² and reference white 48 cd/m².
-- The fixed-point rules, 24 bits behind the point, are this project's own.
--     fifths p g                  g to the power p/5, where g and the answer count in units of 2^-24
--     code_value v                the 12-bit code value of a linear value v
--     xyz_value p weights r g b   the code value of one component of a pixel
--     xyz_plane p weights raw     the code values of one component of a picture of raw bytes
use Rattle.std.specs.Prelude.{◌<◌, ◌≤◌, IsTrue, ℕ, zero, suc, ◌+◌, ◌-◌, ◌*◌, ◌/◌, ◌^◌, Bool, nat_le, if◌then◌else◌, List, [], ◌∷◌}

-- The greatest number from a up to a + 2^k - 1 at which the test holds, where it holds of a and of nothing
-- behind a number at which it fails.
unfoldable pub greatest_from : (ℕ → Bool) → ℕ → ℕ → ℕ
greatest_from test zero a = a
greatest_from test (suc k) a = greatest_from test k (if test (a + 2 ^ k) then a + 2 ^ k else a)

-- r is the greatest number below a bound at which the test holds
pub record IsGreatest (test : ℕ → Bool) (bound r : ℕ) : Type 0 where
  pub holds : IsTrue (test r)
  pub below : r < bound
  pub greatest : (n : ℕ) → n < bound → IsTrue (test n) → n ≤ r

-- the fifth power of r is at most n
abbrev pub has_fifth_power_within : ℕ → ℕ → Bool
has_fifth_power_within n r = nat_le (r ^ 5) n

-- a 16-bit sample as a share of the greatest sample
abbrev pub fraction : ℕ → ℕ
fraction s = s * 2 ^ 24 / 65535

-- the greatest number whose fifth power is at most n, for n up to 2^120
abbrev pub fifth_root : ℕ → ℕ
fifth_root n = greatest_from (has_fifth_power_within n) 25 0

-- g to the power p/5, for p from 11 to 13: g * g times the (p - 10)th power of the fifth root of g
abbrev pub fifths : ℕ → ℕ → ℕ
fifths p g = (g * g / 2 ^ 24) * fifth_root (g ^ (p - 10) * 2 ^ (24 * (15 - p))) / 2 ^ 24

-- what red, green and blue add to a component, in units of 2^-16
pub record Weights : Type 0 where
  pub red : ℕ
  pub green : ℕ
  pub blue : ℕ

abbrev pub x_weights : Weights
x_weights = record { red = 27031; green = 23434; blue = 11825 }

abbrev pub y_weights : Weights
y_weights = record { red = 13938; green = 46868; blue = 4730 }

abbrev pub z_weights : Weights
z_weights = record { red = 1267; green = 7811; blue = 62279 }

-- the power 2.6 of code value y is at most v
abbrev pub is_code_within : ℕ → ℕ → Bool
is_code_within v y = nat_le (fifths 13 (y * 2 ^ 24 / 4095)) v

-- The greatest code value whose power 2.6 is at most v. The first line is needed since that power is 0 up
-- to code value 6.
unfoldable pub code_value : ℕ → ℕ
code_value zero = 0
code_value (suc v) = greatest_from (is_code_within (suc v)) 12 0

-- reference white at 48 of the peak's 52.37
abbrev pub below_peak : ℕ → ℕ
below_peak u = u * 48000 / 52370

abbrev pub xyz_value : ℕ → Weights → ℕ → ℕ → ℕ → ℕ
xyz_value p w r g b =
    code_value (below_peak ((w.red * fifths p (fraction r) + w.green * fifths p (fraction g)
    + w.blue * fifths p (fraction b)) / 65536))

-- raw bytes have six for each pixel: red, green and blue, the higher byte first
unfoldable pub xyz_plane : ℕ → Weights → List ℕ → List ℕ
xyz_plane p w (r1 ∷ r0 ∷ g1 ∷ g0 ∷ b1 ∷ b0 ∷ rest) =
    xyz_value p w (r1 * 256 + r0) (g1 * 256 + g0) (b1 * 256 + b0) ∷ xyz_plane p w rest
xyz_plane p w _ = []
