-- A plane that is taken apart whole.
use Rattle.std.proofs.Common.{◌≡◌, ℕ, ◌*◌, ◌≤◌, sym, subst, arith, List, length, ℤ, All}
use Rattle.codec_terms.specs.declared.picture.BandKind.TheVariants.{LL, HL, LH, HH}
use Rattle.codec_terms.specs.Grid.{items_of}
use Rattle.codec_laws.specs.Bounds.{IsGridOf, IsClamped}
use Rattle.wave_laws.specs.Rows.{quadrant}
use Rattle.quantiser.specs.Signed.{signed_values}
use Rattle.wave_level.specs.declared.level.Level.{Level}
use Rattle.wave_level.specs.Parts.{low_side, high_side, band_at, part_values}
use Rattle.wave_level.specs.Taken.{IsTakenTo}
use Rattle.wave_level.proofs.Filled.{HasRows-all, HasWords-all}
use Rattle.wave_level.proofs.Limits.{part_rows, low_clamped}

pub whole_low : (level : Level) (j : ℕ) (area : List (List ℤ)) (low : List ℤ) (hl lh hh : List ℕ) → IsGridOf IsClamped level.columns level.rows area → low_side level.rows ≤ j
    → length low ≡ low_side level.rows * low_side level.columns → IsTakenTo level j area low hl lh hh → low ≡ items_of (quadrant LL area)
whole_low level j area low hl lh hh g all size so =
    HasRows-all (low_side level.columns) j (low_side level.rows) (quadrant LL area) low (part_rows level.columns level.rows area g).ll size all so.even.low_rows

pub whole_clamped : (level : Level) (area : List (List ℤ)) (low : List ℤ) → IsGridOf IsClamped level.columns level.rows area → low ≡ items_of (quadrant LL area) → All IsClamped low
whole_clamped level area low g is = subst (All IsClamped) (sym is) (low_clamped level.columns level.rows area g)

pub whole_hl : (level : Level) (j : ℕ) (area : List (List ℤ)) (low : List ℤ) (hl lh hh : List ℕ) → IsGridOf IsClamped level.columns level.rows area → low_side level.rows ≤ j
    → length hl ≡ low_side level.rows * high_side level.columns → IsTakenTo level j area low hl lh hh → signed_values hl ≡ part_values (band_at level HL) area
unfolding part_values
whole_hl level j area low hl lh hh g all size so =
    HasWords-all (band_at level HL) (high_side level.columns) j (low_side level.rows) (quadrant HL area) hl (part_rows level.columns level.rows area g).hl size all so.even.hl_words

pub whole_lh : (level : Level) (j : ℕ) (area : List (List ℤ)) (low : List ℤ) (hl lh hh : List ℕ) → IsGridOf IsClamped level.columns level.rows area → low_side level.rows ≤ j
    → length lh ≡ high_side level.rows * low_side level.columns → IsTakenTo level j area low hl lh hh → signed_values lh ≡ part_values (band_at level LH) area
unfolding part_values
whole_lh level j area low hl lh hh g all size so =
    HasWords-all (band_at level LH) (low_side level.columns) _ (high_side level.rows) (quadrant LH area) lh (part_rows level.columns level.rows area g).lh size (omega arith) so.odd.lh_words

pub whole_hh : (level : Level) (j : ℕ) (area : List (List ℤ)) (low : List ℤ) (hl lh hh : List ℕ) → IsGridOf IsClamped level.columns level.rows area → low_side level.rows ≤ j
    → length hh ≡ high_side level.rows * high_side level.columns → IsTakenTo level j area low hl lh hh → signed_values hh ≡ part_values (band_at level HH) area
unfolding part_values
whole_hh level j area low hl lh hh g all size so =
    HasWords-all (band_at level HH) (high_side level.columns) _ (high_side level.rows) (quadrant HH area) hh (part_rows level.columns level.rows area g).hh size (omega arith) so.odd.hh_words
