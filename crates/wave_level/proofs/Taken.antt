-- The rows of a plane, taken one by one.
use Rattle.std.proofs.Common.{◌≡◌, ℕ, ◌+◌, ◌*◌, ◌/◌, ◌<◌, ◌≤◌, min, sym, ap, subst, ◌∙◌, arith, List, ◌++◌, length, map, ℤ}
use Rattle.std.proofs.lemmas.Bool.{cases_lt}
use Rattle.std.proofs.Math.Logic.{⊎_elim}
use Rattle.codec_terms.specs.declared.picture.BandKind.TheVariants.{LL, HL, LH, HH}
use Rattle.codec_terms.specs.Quantiser.{quantised}
use Rattle.wave_laws.specs.Rows.{low_factor, high_factor, scaled_row, row_at, row_after, low_half, high_half, quadrant}
use Rattle.wave_laws.proofs.Rounds.{row_at-LL, row_at-HL, row_at-LH, row_at-HH, row_after-odd}
use Rattle.dwt97.specs.Plane.{row_in}
use Rattle.dwt97.specs.Rounds.{IsBeforeRound}
use Rattle.quantiser.specs.Signed.{signed_values}
use Rattle.wave_level.specs.declared.level.Level.{Level}
use Rattle.wave_level.specs.Parts.{low_side, high_side, band_at, first_rows}
use Rattle.wave_level.specs.Taken.{AreEvenTaken, AreOddTaken, IsTakenTo, IsPairDone}
use Rattle.wave_level.proofs.Filled.{HasRows-none, HasWords-none, HasRows-more, HasWords-more}

-- round j leaves rows 2j and 2j + 1 done
pub pair_done : (area : List (List ℤ)) (columns rows made j : ℕ) (plane : List ℤ) → 2 * j < made → (2 * j + 1 < rows → 2 * j + 1 < made) → IsBeforeRound (j + 1) area columns made plane
    → IsPairDone j area columns rows plane
pair_done area columns rows made j plane even odd so = record {
  even_row = so.even_twice (2 * j) even (omega arith) (omega arith);
  odd_row = λ inside. so.odd_twice (2 * j + 1) (odd inside) (omega arith) (omega arith) ∙ sym (row_after-odd area (2 * j + 1) (omega arith));
}

pub even_taken : (level : Level) (k : ℕ) (area : List (List ℤ)) (plane low low' : List ℤ) (hl hl' : List ℕ) → k < length (quadrant LL area) → k < length (quadrant HL area)
    → row_in level.columns plane (2 * k) ≡ row_after 4 area (2 * k)
    → first_rows (low_side level.columns) (k + 1) low' ≡ first_rows (low_side level.columns) k low ++ low_half (scaled_row low_factor (row_in level.columns plane (2 * k)))
    → signed_values (first_rows (high_side level.columns) (k + 1) hl')
    ≡ signed_values (first_rows (high_side level.columns) k hl) ++ map (quantised (band_at level HL)) (high_half (scaled_row low_factor (row_in level.columns plane (2 * k))))
    → AreEvenTaken level k area low hl → AreEvenTaken level (k + 1) area low' hl'
even_taken level k area plane low low' hl hl' in_low in_hl done p q so = record {
  low_rows = HasRows-more (low_side level.columns) k (quadrant LL area) low low' _ in_low
      (ap (λ (row : List ℤ). low_half (scaled_row low_factor row)) done ∙ sym (row_at-LL area k)) p so.low_rows;
  hl_words = HasWords-more (band_at level HL) (high_side level.columns) k (quadrant HL area) hl hl' _ in_hl
      (ap (λ (row : List ℤ). high_half (scaled_row low_factor row)) done ∙ sym (row_at-HL area k)) q so.hl_words;
}

pub odd_taken : (level : Level) (k : ℕ) (area : List (List ℤ)) (plane : List ℤ) (lh lh' hh hh' : List ℕ) → k < length (quadrant LH area) → k < length (quadrant HH area)
    → row_in level.columns plane (2 * k + 1) ≡ row_after 4 area (2 * k + 1)
    → signed_values (first_rows (low_side level.columns) (k + 1) lh')
    ≡ signed_values (first_rows (low_side level.columns) k lh) ++ map (quantised (band_at level LH)) (low_half (scaled_row high_factor (row_in level.columns plane (2 * k + 1))))
    → signed_values (first_rows (high_side level.columns) (k + 1) hh')
    ≡ signed_values (first_rows (high_side level.columns) k hh) ++ map (quantised (band_at level HH)) (high_half (scaled_row high_factor (row_in level.columns plane (2 * k + 1))))
    → AreOddTaken level k area lh hh → AreOddTaken level (k + 1) area lh' hh'
odd_taken level k area plane lh lh' hh hh' in_lh in_hh done p q so = record {
  lh_words = HasWords-more (band_at level LH) (low_side level.columns) k (quadrant LH area) lh lh' _ in_lh
      (ap (λ (row : List ℤ). low_half (scaled_row high_factor row)) done ∙ sym (row_at-LH area k)) p so.lh_words;
  hh_words = HasWords-more (band_at level HH) (high_side level.columns) k (quadrant HH area) hh hh' _ in_hh
      (ap (λ (row : List ℤ). high_half (scaled_row high_factor row)) done ∙ sym (row_at-HH area k)) q so.hh_words;
}

even_none : (level : Level) (area : List (List ℤ)) (low : List ℤ) (hl : List ℕ) → AreEvenTaken level 0 area low hl
even_none level area low hl = record {
  low_rows = HasRows-none (low_side level.columns) (quadrant LL area) low;
  hl_words = HasWords-none (band_at level HL) (high_side level.columns) (quadrant HL area) hl;
}

odd_none : (level : Level) (area : List (List ℤ)) (lh hh : List ℕ) → AreOddTaken level 0 area lh hh
odd_none level area lh hh = record {
  lh_words = HasWords-none (band_at level LH) (low_side level.columns) (quadrant LH area) lh;
  hh_words = HasWords-none (band_at level HH) (high_side level.columns) (quadrant HH area) hh;
}

pub odd_at : (level : Level) (area : List (List ℤ)) (lh hh : List ℕ) (k k' : ℕ) → k ≡ k' → AreOddTaken level k area lh hh → AreOddTaken level k' area lh hh
odd_at level area lh hh k k' e so = subst (λ (n : ℕ). AreOddTaken level n area lh hh) e so

pub none_taken : (level : Level) (area : List (List ℤ)) (low : List ℤ) (hl lh hh : List ℕ) → IsTakenTo level 0 area low hl lh hh
none_taken level area low hl lh hh = record {
  even = even_none level area low hl;
  odd = odd_at level area lh hh 0 (min 0 (level.rows / 2)) (omega arith) (odd_none level area lh hh);
}

-- more rows are made between two rounds
pub more_made : (area : List (List ℤ)) (columns made more j : ℕ) (plane next : List ℤ) → 2 * j + 2 ≤ made → ((y : ℕ) → y < made → row_in columns next y ≡ row_in columns plane y)
    → ((y : ℕ) → made ≤ y → y < more → row_in columns next y ≡ row_at area y) → IsBeforeRound j area columns made plane → IsBeforeRound j area columns more next
more_made area columns made more j plane next enough same new so = record {
  odd_raw = λ y inside odd first. ⊎_elim (λ old. same y old ∙ so.odd_raw y old odd first) (λ at. new y at inside) (cases_lt y made);
  odd_once = λ y inside odd third first. let old : y < made = omega arith in same y old ∙ so.odd_once y old odd third first;
  odd_twice = λ y inside odd third. let old : y < made = omega arith in same y old ∙ so.odd_twice y old odd third;
  even_raw = λ y inside even second. ⊎_elim (λ old. same y old ∙ so.even_raw y old even second) (λ at. new y at inside) (cases_lt y made);
  even_once = λ y inside even fourth second. let old : y < made = omega arith in same y old ∙ so.even_once y old even fourth second;
  even_twice = λ y inside even fourth. let old : y < made = omega arith in same y old ∙ so.even_twice y old even fourth;
}
