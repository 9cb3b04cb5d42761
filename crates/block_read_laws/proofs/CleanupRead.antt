-- The cleanup pass, read beside the encoder's.
use Rattle.std.proofs.Common.{◌≡◌, ℕ, zero, suc, ◌+◌, ◌*◌, ◌/◌, ◌%◌, ◌<◌, refl, sym, ap, ap₂, subst, ◌∙◌, arith, Bool, true, false, ◌&&◌, not, List, [], ◌∷◌, length, get_or, drop, All, fold, position, slice_index, Option, Some, None}
use Rattle.std.specs.Prelude.{◌==◌}
use Rattle.std.specs.Int.{from_bool}
use Rattle.std.specs.List.{list_all}
use Rattle.std.proofs.lemmas.Bool.{eqb-true, and_parts, not-true}
use Rattle.std.proofs.lemmas.List.Elements.{All-drop}
use Rattle.std.proofs.lemmas.List.Sums.{AllPass-from_list_all}
use Rattle.std.proofs.lemmas.List.Quantifiers.{position-Some}
use Rattle.codec_terms.specs.Mq.{Decision}
use Rattle.codec_terms.specs.Contexts.{contains, Column, scan}
use Rattle.codec_terms.specs.BlockDecisions.{Block, Walk, plane_bit, with_decision, is_significant, is_visited, zero_context_of, sign_told, bit_told, is_left, cleaned, may_run, is_run, run_end, run_told, column_cleaned}
use Rattle.codec_terms.specs.BlockReading.{Known, behind_bit, sign_read, zero_bit_read, cleanup_reads, cleanup_at, may_read_run, reads_run, run_row, run_broken, run_read, cleanup_column}
use Rattle.block_read_laws.proofs.Decoding.{IsFront}
use Rattle.block_read_laws.proofs.Moves.{Moves, stays, followed, either, fold_moves}
use Rattle.block_read_laws.proofs.Numbers.{without_low, high_one}
use Rattle.block_read_laws.proofs.Related.{area_of, told_significant-same, magnitude, Coded, Related, FromBit, contains-inside, decision-bit, decision-moves, by_bit, sign-moves, zero_context-same, bit-moves}
use Rattle.block_read_laws.proofs.Samples.{IsWithin, scan_within}

-- the magnitudes without the bits below p
abbrev pub own : Block → ℕ → ℕ → ℕ
own b p i = without_low p (magnitude b i)

own-from_bit : (b : Block) (p : ℕ) → FromBit b p (own b p)
own-from_bit b p i from below = high_one (magnitude b i) p from below

list_all-same : (f g : ℕ → Bool) → ((y : ℕ) → f y ≡ g y) → (ys : List ℕ) → list_all f ys ≡ list_all g ys
list_all-same f g same [] = refl
list_all-same f g same (y ∷ ys) = ap₂ (λ (s t : Bool). s && t) (same y) (list_all-same f g same ys)

-- two bits are the row of a column
two_bits : (r : ℕ) → r < 4 → 2 * from_bool (r / 2 == 1) + from_bool (r % 2 == 1) ≡ r
two_bits zero h = refl
two_bits (suc zero) h = refl
two_bits (suc (suc zero)) h = refl
two_bits (suc (suc (suc zero))) h = refl
two_bits (suc (suc (suc (suc r)))) h = absurd (omega arith)

module _ (b : Block) (ds : List Decision) (c : Coded b ds) (p : ℕ) where
  abbrev S : Walk → Known → Type 0
  S = Related b ds (suc p) (own b p)

  left-same : (w : Walk) (k : Known) (x y : ℕ) → S w k → is_left b w x y ≡ cleanup_reads (area_of b) k x y
  unfolding is_left cleanup_reads
  left-same w k x y r =
      ap₂ (λ (s t : Bool). not s && not t) (ap (λ set. contains b.width set x y) (sym r.significant))
      (ap (λ set. contains b.width set x y) (sym r.visited))

  left_none : (w : Walk) (x y : ℕ) → x < b.width → is_left b w x y ≡ true
      → get_or w.significant (y * b.width + x) false ≡ false
  unfolding is_left
  left_none w x y wide e =
      sym (contains-inside b.width w.significant x y wide)
      ∙ not-true (is_significant b w x y) (and_parts (not (is_significant b w x y)) (not (is_visited b w x y)) e).0

  cleaned-moves : (x y : ℕ) (w : Walk) (k : Known) → x < b.width → y < b.height
      → Moves ds S S w (cleaned b p x w y) k (cleanup_at (area_of b) p x k y)
  unfolding cleaned cleanup_at
  cleaned-moves x y w k wide high =
      either ds S S w (bit_told b p x y w) w k (zero_bit_read (area_of b) p x y k) k (is_left b w x y)
      (cleanup_reads (area_of b) k x y)
      (left-same w k x y)
      (λ e. bit-moves b ds c p (own b p) (own-from_bit b p) x y w k wide high (left_none w x y wide e))
      (λ e. stays ds S w k)

  rows-moves : (x : ℕ) (rows : List ℕ) (w : Walk) (k : Known) → x < b.width → All (λ y. y < b.height) rows
      → Moves ds S S w (fold (cleaned b p x) w rows) k (fold (cleanup_at (area_of b) p x) k rows)
  rows-moves x rows w k wide high =
      fold_moves ds S (λ y. y < b.height) (cleaned b p x) (cleanup_at (area_of b) p x)
      (λ y w k high. cleaned-moves x y w k wide high) rows w k high

  -- ---- a run

  run-same : (w : Walk) (k : Known) (column : Column) → S w k → is_run b w column ≡ reads_run (area_of b) k column
  unfolding is_run reads_run may_run may_read_run
  run-same w k column r =
      ap (λ (t : Bool). (length column.rows == 4) && t)
      (list_all-same (may_run b w column.x) (may_read_run (area_of b) k column.x)
      (λ y. ap₂ (λ (t : Bool) (n : ℕ). t && (n == 0)) (left-same w k column.x y r)
      (zero_context-same b ds c p (own b p) (own-from_bit b p) w k column.x y r))
      column.rows)

  run_four : (w : Walk) (column : Column) → is_run b w column ≡ true → length column.rows ≡ 4
  unfolding is_run
  run_four w column e =
      eqb-true (length column.rows) 4
      (and_parts (length column.rows == 4) (list_all (may_run b w column.x) column.rows) e).0

  run_left : (w : Walk) (column : Column) (r : ℕ) → is_run b w column ≡ true → r < length column.rows
      → is_left b w column.x (slice_index column.rows r) ≡ true
  unfolding is_run may_run
  run_left w column r e inside =
      (and_parts (is_left b w column.x (slice_index column.rows r))
      (zero_context_of b w column.x (slice_index column.rows r) == 0)
      (AllPass-from_list_all (may_run b w column.x) column.rows
      (and_parts (length column.rows == 4) (list_all (may_run b w column.x) column.rows) e).1 r 0 inside)).0

  -- behind the bit that breaks the run, at row r
  broken_at : ℕ → Column → Known → Known
  broken_at r column k =
      fold (cleanup_at (area_of b) p column.x)
      (sign_read (area_of b) p column.x (slice_index column.rows r) (behind_bit 18 (behind_bit 18 k)))
      (drop (suc r) column.rows)

  run_broken-is : (column : Column) (k : Known) → broken_at (run_row k) column k ≡ run_broken (area_of b) p column k
  unfolding broken_at run_broken
  run_broken-is column k = refl

  abbrev high_told : ℕ → Walk → Walk
  high_told r w = with_decision 18 (r / 2 == 1) w

  abbrev low_told : ℕ → Walk → Walk
  low_told r w = with_decision 18 (r % 2 == 1) (high_told r w)

  row-is : (r : ℕ) (w : Walk) (k : Known) → r < 4 → IsFront (high_told r w).decisions ds
      → IsFront (low_told r w).decisions ds
      → S w k → S (high_told r w) (behind_bit 18 k) → run_row k ≡ r
  unfolding run_row
  row-is r w k small f g s t =
      ap₂ (λ (m n : Bool). 2 * from_bool m + from_bool n)
      (decision-bit b ds c p (own b p) (own-from_bit b p) 18 (r / 2 == 1) w k f s)
      (decision-bit b ds c p (own b p) (own-from_bit b p) 18 (r % 2 == 1) (high_told r w) (behind_bit 18 k) g t)
      ∙ two_bits r small

  broken-moves : (column : Column) (r : ℕ) (w : Walk) (k : Known) → IsWithin b.width b.height column
      → r < length column.rows → length column.rows ≡ 4
      → get_or w.significant (slice_index column.rows r * b.width + column.x) false ≡ false
      → plane_bit b p column.x (slice_index column.rows r) ≡ true
      → Moves ds S S w
      (fold (cleaned b p column.x) (sign_told b column.x (slice_index column.rows r) (low_told r w))
      (drop (suc r) column.rows))
      k (run_broken (area_of b) p column k)
  unfolding broken_at
  broken-moves column r w k within inside four none bit =
      let x : ℕ = column.x in
      let y : ℕ = slice_index column.rows r in
      let behind_high : Known = behind_bit 18 k in
      let behind_low : Known = behind_bit 18 behind_high in
      let still_none : get_or (low_told r w).significant (y * b.width + x) false ≡ false =
      ap (λ set. get_or set (y * b.width + x) false)
      (told_significant-same 18 (r % 2 == 1) (high_told r w) ∙ told_significant-same 18 (r / 2 == 1) w) ∙ none in
      let one : Moves ds S S w (high_told r w) k behind_high =
      decision-moves b ds c p (own b p) (own-from_bit b p) 18 18 (r / 2 == 1) w k (λ s. refl) in
      let two : Moves ds S S (high_told r w) (low_told r w) behind_high behind_low =
      decision-moves b ds c p (own b p) (own-from_bit b p) 18 18 (r % 2 == 1) (high_told r w) behind_high (λ s. refl) in
      let sign : Moves ds S S (low_told r w) (sign_told b x y (low_told r w)) behind_low
      (sign_read (area_of b) p x y behind_low) =
      sign-moves b ds c p (own b p) (own-from_bit b p) x y (low_told r w) behind_low within.wide
      (within.high r 0 inside) still_none bit in
      let rest : Moves ds S S (sign_told b x y (low_told r w))
      (fold (cleaned b p x) (sign_told b x y (low_told r w)) (drop (suc r) column.rows))
      (sign_read (area_of b) p x y behind_low) (broken_at r column k) =
      rows-moves x (drop (suc r) column.rows) (sign_told b x y (low_told r w))
      (sign_read (area_of b) p x y behind_low) within.wide
      (All-drop (λ y. y < b.height) (suc r) column.rows within.high) in
      let later : Moves ds S S (low_told r w)
      (fold (cleaned b p x) (sign_told b x y (low_told r w)) (drop (suc r) column.rows)) behind_low
      (broken_at r column k) = followed sign rest in
      let all : Moves ds S S w (fold (cleaned b p x) (sign_told b x y (low_told r w)) (drop (suc r) column.rows)) k
      (broken_at r column k) =
      followed one (followed two later) in
      record {
        back = all.back;
        on = λ f s. subst (S (fold (cleaned b p x) (sign_told b x y (low_told r w)) (drop (suc r) column.rows)))
            (ap (λ n. broken_at n column k)
            (sym (row-is r w k (omega (arith, inside, four)) (two.back (later.back f)) (later.back f) s
            (one.on (two.back (later.back f)) s)))
            ∙ run_broken-is column k)
            (all.on f s);
      }

  run_end-moves : (column : Column) (w : Walk) (k : Known) (first : Option ℕ) → IsWithin b.width b.height column
      → is_run b w column ≡ true
      → position (plane_bit b p column.x) column.rows ≡ first
      → Moves ds S S w (run_end b p column w first) k (run_read (area_of b) p column k)
  unfolding run_end run_read
  run_end-moves column w k None within run e =
      by_bit b ds c p (own b p) (own-from_bit b p) S 17 17 false w w (with_decision 17 false w) k
      (run_broken (area_of b) p column (behind_bit 17 k)) (behind_bit 17 k)
      (λ s. refl) (λ q. absurd (no q)) (λ q. stays ds S (with_decision 17 false w) (behind_bit 17 k))
    where
      no : false ≡ true → ⊥
      no q = cc
  run_end-moves column w k (Some r) within run e =
      let found = position-Some (plane_bit b p column.x) column.rows r 0 e in
      let broken : Walk = with_decision 17 true w in
      by_bit b ds c p (own b p) (own-from_bit b p) S 17 17 true w
      (fold (cleaned b p column.x) (sign_told b column.x (slice_index column.rows r) (low_told r broken))
      (drop (suc r) column.rows)) w k
      (run_broken (area_of b) p column (behind_bit 17 k)) (behind_bit 17 k) (λ s. refl)
      (λ q. broken-moves column r broken (behind_bit 17 k) within found.0 (run_four w column run)
      (ap (λ set. get_or set (slice_index column.rows r * b.width + column.x) false) (told_significant-same 17 true w)
      ∙ left_none w column.x (slice_index column.rows r) within.wide (run_left w column r run found.0)) found.1)
      (λ q. absurd (no q))
    where
      no : true ≡ false → ⊥
      no q = cc

  column-moves : (column : Column) (w : Walk) (k : Known) → IsWithin b.width b.height column
      → Moves ds S S w (column_cleaned b p w column) k (cleanup_column (area_of b) p k column)
  unfolding column_cleaned cleanup_column run_told
  column-moves column w k within =
      either ds S S w (run_told b p w column) (fold (cleaned b p column.x) w column.rows) k
      (run_read (area_of b) p column k) (fold (cleanup_at (area_of b) p column.x) k column.rows) (is_run b w column)
      (reads_run (area_of b) k column)
      (run-same w k column)
      (λ e. run_end-moves column w k (position (plane_bit b p column.x) column.rows) within e refl)
      (λ e. rows-moves column.x column.rows w k within.wide within.high)

  -- before the visited samples are cleared
  pub cleanup-moves : (w : Walk) (k : Known)
      → Moves ds S S w (fold (column_cleaned b p) w (scan b.width b.height)) k
      (fold (cleanup_column (area_of b) p) k (scan b.width b.height))
  cleanup-moves w k =
      fold_moves ds S (IsWithin b.width b.height) (column_cleaned b p) (cleanup_column (area_of b) p) column-moves
      (scan b.width b.height) w k (scan_within b.width b.height)
