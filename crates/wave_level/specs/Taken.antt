-- How far a plane is taken apart.
use Rattle.std.specs.Prelude.{◌≡◌, ℕ, ◌+◌, ◌*◌, ◌/◌, ◌<◌, min, List, ℤ}
use Rattle.codec_terms.specs.declared.picture.BandKind.TheVariants.{LL, HL, LH, HH}
use Rattle.wave_laws.specs.Rows.{quadrant, row_after}
use Rattle.dwt97.specs.Plane.{row_in}
use Rattle.dwt97.specs.Rounds.{IsBeforeRound}
use Rattle.wave_level.specs.declared.level.Level.{Level}
use Rattle.wave_level.specs.Parts.{low_side, high_side, band_at, HasRows, HasWords}

-- the first k rows of LL and of HL are there
pub record AreEvenTaken (level : Level) (k : ℕ) (area : List (List ℤ)) (low : List ℤ) (hl : List ℕ) : Type 0 where
  pub low_rows : HasRows (low_side level.columns) k (quadrant LL area) low
  pub hl_words : HasWords (band_at level HL) (high_side level.columns) k (quadrant HL area) hl

-- the first k rows of LH and of HH are there
pub record AreOddTaken (level : Level) (k : ℕ) (area : List (List ℤ)) (lh hh : List ℕ) : Type 0 where
  pub lh_words : HasWords (band_at level LH) (low_side level.columns) k (quadrant LH area) lh
  pub hh_words : HasWords (band_at level HH) (high_side level.columns) k (quadrant HH area) hh

-- what is there before round j
pub record IsTakenTo (level : Level) (j : ℕ) (area : List (List ℤ)) (low : List ℤ) (hl lh hh : List ℕ) : Type 0 where
  pub even : AreEvenTaken level j area low hl
  pub odd : AreOddTaken level (min j (level.rows / 2)) area lh hh

-- rows 2j and 2j + 1 of a plane, so far as there are such rows, have had all steps
pub record IsPairDone (j : ℕ) (area : List (List ℤ)) (columns rows : ℕ) (plane : List ℤ) : Type 0 where
  pub even_row : row_in columns plane (2 * j) ≡ row_after 4 area (2 * j)
  pub odd_row : 2 * j + 1 < rows → row_in columns plane (2 * j + 1) ≡ row_after 4 area (2 * j + 1)

-- before round j of a plane whose first rows are made, the rows below 2j are taken
pub record IsUnderWay (level : Level) (made j : ℕ) (area : List (List ℤ)) (plane low : List ℤ) (hl lh hh : List ℕ) : Type 0 where
  pub lifted : IsBeforeRound j area level.columns made plane
  pub taken : IsTakenTo level j area low hl lh hh
