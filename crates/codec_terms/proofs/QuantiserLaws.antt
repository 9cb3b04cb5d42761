-- What is kept at cut 0 is the value itself.
use Rattle.std.proofs.Common.{◌≡◌, ℕ, ◌-◌, ◌%◌, ap, arith, suc}
use Rattle.std.specs.Int.{from_bool}
use Rattle.std.proofs.lemmas.Bool.{le-ltb}
use Rattle.std.specs.Prelude.{nat_lt, ℤ, pos, negsuc, neg_ℤ}
use Rattle.codec_terms.specs.declared.picture.Band.{Band}
use Rattle.codec_terms.specs.Bands.{rank, lowest_plane}
use Rattle.codec_terms.specs.Quantiser.{kept}

whole : (n : ℕ) → n - n % 1 ≡ n
whole n = omega arith

pub kept-zero : (v : ℤ) → kept 0 v ≡ v
kept-zero (pos n) = ap pos (whole n)
kept-zero (negsuc n) = ap (λ (m : ℕ). neg_ℤ (pos m)) (whole (suc n))

none_below_zero : (n : ℕ) → from_bool (nat_lt n 0) ≡ 0
none_below_zero n = ap from_bool (le-ltb n 0 (omega arith))

pub lowest_plane-zero : (band : Band) → lowest_plane 0 band ≡ 0
lowest_plane-zero band = omega (arith, none_below_zero (rank band))

pub kept-cut_zero : (band : Band) (v : ℤ) → kept (lowest_plane 0 band) v ≡ v
kept-cut_zero band v = rw (lowest_plane-zero band) (kept-zero v)
