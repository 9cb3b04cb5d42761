-- Quantisation: ITU-T T.800 Annex E.2; the saturation is this project's own.
--     quantised band v      the quantised value of a transformed sample
--     kept p v              a value without its bit-planes below p
use Rattle.std.specs.Prelude.{ℕ, ◌-◌, ◌/◌, ◌^◌, ◌%◌, min, ℤ, pos, negsuc, neg_ℤ, unsigned_abs}
use Rattle.codec_terms.specs.declared.picture.Band.{Band}
use Rattle.codec_terms.specs.Bands.{step, plane_limit}

-- the number of magnitude n that has the sign of a given one
abbrev pub with_sign_of : ℤ → ℕ → ℤ
with_sign_of (pos m) n = pos n
with_sign_of (negsuc m) n = neg_ℤ (pos n)

abbrev pub quantised : Band → ℤ → ℤ
quantised band v = with_sign_of v (min (unsigned_abs v / step band) (2 ^ plane_limit band - 1))

abbrev pub kept : ℕ → ℤ → ℤ
kept p v = with_sign_of v (unsigned_abs v - unsigned_abs v % 2 ^ p)
