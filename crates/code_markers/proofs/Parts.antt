-- How a tile-part ends.
use Rattle.std.proofs.Common.{◌≡◌, ◌≢◌, ℕ, suc, ◌+◌, refl, arith, Bool, true, false, List, length, Ok, Err}
use Rattle.std.specs.Prelude.{◌==◌, ◌&&◌, not, if◌then◌else◌}
use Rattle.std.proofs.lemmas.Bool.{eq-eqb, ne_eqb}
use Rattle.codec_terms.specs.declared.reading.MarkerRefusal.{MarkerRefusal}
use Rattle.codec_terms.specs.declared.reading.ReadRefusal.TheVariants.{Marker, PartLength}
use Rattle.codec_terms.specs.MainReading.{marker_at}
use Rattle.codec_terms.specs.StreamReading.{tile_part_end}

both-true : {A : Type 0} (b : Bool) (x : A) → (if b && true then x else x) ≡ x
both-true true x = refl
both-true false x = refl

never-true : {A : Type 0} (b : Bool) (x y : A) → (if b && false then x else y) ≡ y
never-true true x y = refl
never-true false x y = refl

pub and-false : (b same : Bool) → same ≡ true → (b && not same) ≡ false
and-false true true h = refl
and-false false true h = refl
and-false true false h = cc
and-false false false h = refl

module _ (bytes : List ℕ) (component len start marker at : ℕ) where
  -- just one byte of the marker is there
  pub tile_part_end-short : length bytes ≡ at + 1 → start + len ≢ at → tile_part_end bytes component len start marker at ≡ Err (PartLength component len)
  unfolding tile_part_end
  tile_part_end-short short other = rw (eq-eqb (length bytes) (suc at) (omega arith), ne_eqb (start + len) at other) refl

  pub tile_part_end-refused : (e : MarkerRefusal) → (length bytes == suc at && not (start + len == at)) ≡ false → marker_at bytes (λ m. m == marker) at ≡ Err e → tile_part_end bytes component len start marker at ≡ Err (Marker e)
  unfolding tile_part_end
  tile_part_end-refused e first h = rw (first, h) refl

  pub tile_part_end-other : (m : ℕ) → marker_at bytes (λ m. m == marker) at ≡ Ok m → start + len ≢ at → tile_part_end bytes component len start marker at ≡ Err (PartLength component len)
  unfolding tile_part_end
  tile_part_end-other m h other = rw (h, ne_eqb (start + len) at other) (both-true (length bytes == suc at) (Err (PartLength component len)))

  pub tile_part_end-fine : (m : ℕ) → marker_at bytes (λ m. m == marker) at ≡ Ok m → start + len ≡ at → tile_part_end bytes component len start marker at ≡ Ok at
  unfolding tile_part_end
  tile_part_end-fine m h same = rw (h, eq-eqb (start + len) at same) (never-true (length bytes == suc at) (Err (PartLength component len)) (Ok at))
