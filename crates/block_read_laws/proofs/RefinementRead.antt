-- The magnitude refinement pass, read beside the encoder's.
use Rattle.std.proofs.Common.{◌≡◌, ◌≢◌, ◌⊎◌, ℕ, suc, ◌+◌, ◌*◌, ◌/◌, ◌<◌, ◌≤◌, ◌^◌, refl, sym, ap, ap₂, subst, ◌∙◌, Bool, true, false, cond, ◌&&◌, ◌||◌, not, List, [], ◌∷◌, ◌++◌, get_or, set, All, fold, inl, inr}
use Rattle.std.specs.Prelude.{◌==◌, nat_le}
use Rattle.std.specs.Int.{from_bool}
use Rattle.std.proofs.lemmas.Bool.{and_parts, and_cases, and_right, and_left, not-true, not-false, cases_eq, cases_lt, eq-eqb, ne_eqb, lt-leb, le-leb, cond-false, cond-true, or_parts, eqb-false, false≢true}
use Rattle.std.proofs.lemmas.List.{length-set, get_or-set_same, get_or-set_other}
use Rattle.std.proofs.lemmas.List.Elements.{All-nil, All-cons, All-head, All-tail}
use Rattle.codec_terms.specs.Mq.{Decision}
use Rattle.codec_terms.specs.Contexts.{contains, refine_context_at, Column, scan}
use Rattle.codec_terms.specs.BlockDecisions.{Block, Walk, plane_bit, with_decision, is_significant, is_visited, is_refined, is_first, refined, column_refined, refinement}
use Rattle.codec_terms.specs.BlockReading.{Known, next_bit, behind_bit, known_significant, known_visited, known_magnitude, with_magnitude, refinement_context, refined_read, refinement_at, refinement_column, refinement_read}
use Rattle.block_read_laws.proofs.Moves.{Moves, stays, followed, either}
use Rattle.block_read_laws.proofs.Numbers.{without_low, high_one, high_bit, high_div}
use Rattle.block_read_laws.proofs.Related.{area_of, told_significant-same, told_visited-same, magnitude, Coded, Related, FromBit, with_level, contains-inside, place, decision-bit, decision-moves}
use Rattle.block_read_laws.proofs.PropagationRead.{IsFresh}
use Rattle.block_read_laws.proofs.Samples.{Once, places, column_places, IsWithin, scan_within, scan-once, pairwise-right}

abbrev pub still : ℕ → List ℕ → Bool
still i [] = false
still i (j ∷ js) = (j == i) || still i js

pub still-false : (i : ℕ) (js : List ℕ) → still i js ≡ false → All (λ j. j ≢ i) js
still-false i [] e = All-nil (λ j. j ≢ i)
still-false i (j ∷ js) e =
    let parts = or_parts (j == i) (still i js) e in
    All-cons (λ j. j ≢ i) j js (eqb-false j i parts.0) (still-false i js parts.1)

still-none : (i : ℕ) (js : List ℕ) → All (λ j. j ≢ i) js → still i js ≡ false
still-none i [] h = refl
still-none i (j ∷ js) h =
    rw (ne_eqb j i (All-head (λ j. j ≢ i) j js h)) (still-none i js (All-tail (λ j. j ≢ i) j js h))

-- a sample with a bit above p that is still to come lacks that of p
abbrev pub to_refine : Block → ℕ → List ℕ → ℕ → ℕ
to_refine b p rest i =
    cond (nat_le (2 ^ suc p) (magnitude b i) && still i rest) (without_low (suc p) (magnitude b i))
    (without_low p (magnitude b i))

refine-from_bit : (b : Block) (p : ℕ) (rest : List ℕ) → FromBit b p (to_refine b p rest)
refine-from_bit b p rest i from below =
    cond-false (nat_le (2 ^ suc p) (magnitude b i) && still i rest) (without_low (suc p) (magnitude b i))
    (without_low p (magnitude b i))
    (and_left (nat_le (2 ^ suc p) (magnitude b i)) (still i rest) (lt-leb (2 ^ suc p) (magnitude b i) below))
    ∙ high_one (magnitude b i) p from below

-- these places are still to come
pub record Refines (b : Block) (ds : List Decision) (p : ℕ) (rest : List ℕ) (w : Walk) (k : Known) : Type 0 where
  pub related : Related b ds (suc p) (to_refine b p rest) w k
  pub fresh : IsFresh b p w.significant w.visited

module _ (b : Block) (ds : List Decision) (c : Coded b ds) (p : ℕ) where
  abbrev S : List ℕ → Walk → Known → Type 0
  S = Refines b ds p

  refined-same : (rest : List ℕ) (w : Walk) (k : Known) (x y : ℕ) → S rest w k
      → is_refined b w x y ≡ (known_significant (area_of b) k x y && not (known_visited (area_of b) k x y))
  unfolding is_refined
  refined-same rest w k x y s =
      ap₂ (λ (t u : Bool). t && not u) (ap (λ set. contains b.width set x y) (sym s.related.significant))
      (ap (λ set. contains b.width set x y) (sym s.related.visited))

  -- ---- what is still to come

  other-level : (here : ℕ) (rest : List ℕ) (i : ℕ) → (i ≡ here → ⊥)
      → to_refine b p (here ∷ rest) i ≡ to_refine b p rest i
  other-level here rest i other = rw (ne_eqb here i (λ e. other (sym e))) refl

  done-level : (here : ℕ) (rest : List ℕ) → All (λ j. j ≢ here) rest
      → to_refine b p rest here ≡ without_low p (magnitude b here)
  done-level here rest once =
      cond-false (nat_le (2 ^ suc p) (magnitude b here) && still here rest) (without_low (suc p) (magnitude b here))
      (without_low p (magnitude b here))
      (and_right (nat_le (2 ^ suc p) (magnitude b here)) (still here rest) (still-none here rest once))

  low-level : (rest : List ℕ) (i : ℕ) → magnitude b i < 2 ^ suc p → to_refine b p rest i ≡ without_low p (magnitude b i)
  low-level rest i below =
      cond-false (nat_le (2 ^ suc p) (magnitude b i) && still i rest) (without_low (suc p) (magnitude b i))
      (without_low p (magnitude b i))
      (and_left (nat_le (2 ^ suc p) (magnitude b i)) (still i rest) (lt-leb (2 ^ suc p) (magnitude b i) below))

  first-level : (here : ℕ) (rest : List ℕ) → 2 ^ suc p ≤ magnitude b here
      → to_refine b p (here ∷ rest) here ≡ without_low (suc p) (magnitude b here)
  first-level here rest from = rw (le-leb (2 ^ suc p) (magnitude b here) from, eq-eqb here here refl) refl

  -- ---- a sample that isn't refined

  unrefined : (w : Walk) (x y : ℕ) → x < b.width → is_refined b w x y ≡ false
      → (get_or w.significant (y * b.width + x) false ≡ false) ⊎ (get_or w.visited (y * b.width + x) false ≡ true)
  unfolding is_refined
  unrefined w x y wide e = elim (and_cases (is_significant b w x y) (not (is_visited b w x y)) e) [
    | inl none ↦ inl (sym (contains-inside b.width w.significant x y wide) ∙ none)
    | inr visited ↦ inr (sym (contains-inside b.width w.visited x y wide) ∙ not-false (is_visited b w x y) visited)
  ]

  passed-level : (x y : ℕ) (rest : List ℕ) (w : Walk) → x < b.width → y < b.height → is_refined b w x y ≡ false
      → All (λ j. j ≢ y * b.width + x) rest → IsFresh b p w.significant w.visited → (i : ℕ)
      → cond (get_or w.significant i false) (to_refine b p ((y * b.width + x) ∷ rest) i) 0
      ≡ cond (get_or w.significant i false) (to_refine b p rest i) 0
  passed-level x y rest w wide high e once fresh i =
      let here : ℕ = y * b.width + x in
      elim (cases_eq i here) [
        | inr other ↦ ap (λ n. cond (get_or w.significant i false) n 0) (other-level here rest i other)
        | inl same ↦
            subst (λ n. cond (get_or w.significant n false) (to_refine b p (here ∷ rest) n) 0
            ≡ cond (get_or w.significant n false) (to_refine b p rest n) 0) (sym same)
            (elim (unrefined w x y wide e) [
              | inl none ↦ rw none refl
              | inr visited ↦ ap (λ n. cond (get_or w.significant here false) n 0) (at_visited visited)
            ])
      ]
    where
      at_visited : get_or w.visited (y * b.width + x) false ≡ true
          → to_refine b p ((y * b.width + x) ∷ rest) (y * b.width + x) ≡ to_refine b p rest (y * b.width + x)
      at_visited visited =
          let here : ℕ = y * b.width + x in
          let below : magnitude b here < 2 ^ suc p =
          fresh.old here (place b ds c p (to_refine b p rest) (refine-from_bit b p rest) x y wide high) visited in
          low-level (here ∷ rest) here below ∙ sym (low-level rest here below)

  passed-moves : (x y : ℕ) (rest : List ℕ) (w : Walk) (k : Known) → x < b.width → y < b.height
      → is_refined b w x y ≡ false
      → All (λ j. j ≢ y * b.width + x) rest → Moves ds (S ((y * b.width + x) ∷ rest)) (S rest) w w k k
  passed-moves x y rest w k wide high e once = record {
    back = λ f. f;
    on = λ f s. record {
      related = with_level b ds (suc p) (to_refine b p ((y * b.width + x) ∷ rest)) (to_refine b p rest) w k s.related
          (λ i inside. passed-level x y rest w wide high e once s.fresh i);
      fresh = s.fresh;
    };
  }

  -- ---- a sample that is refined has a bit above p

  refined_significant : (w : Walk) (x y : ℕ) → x < b.width → is_refined b w x y ≡ true
      → get_or w.significant (y * b.width + x) false ≡ true
  unfolding is_refined
  refined_significant w x y wide e =
      sym (contains-inside b.width w.significant x y wide)
      ∙ (and_parts (is_significant b w x y) (not (is_visited b w x y)) e).0

  refined_unvisited : (w : Walk) (x y : ℕ) → x < b.width → is_refined b w x y ≡ true
      → get_or w.visited (y * b.width + x) false ≡ false
  unfolding is_refined
  refined_unvisited w x y wide e =
      sym (contains-inside b.width w.visited x y wide)
      ∙ not-true (is_visited b w x y) (and_parts (is_significant b w x y) (not (is_visited b w x y)) e).1

  refined_above : (w : Walk) (x y : ℕ) → x < b.width → y < b.height → is_refined b w x y ≡ true
      → IsFresh b p w.significant w.visited
      → 2 ^ suc p ≤ magnitude b (y * b.width + x)
  refined_above w x y wide high e fresh = elim (cases_lt (magnitude b (y * b.width + x)) (2 ^ suc p)) [
    | inr from ↦ from
    | inl below ↦ absurd (false≢true (sym (refined_unvisited w x y wide e)
        ∙ fresh.new (y * b.width + x) (place b ds c p (to_refine b p []) (refine-from_bit b p []) x y wide high)
        (refined_significant w x y wide e) below))
  ]

  known_before : (x y : ℕ) (rest : List ℕ) (w : Walk) (k : Known) → x < b.width → y < b.height
      → is_refined b w x y ≡ true → S ((y * b.width + x) ∷ rest) w k
      → known_magnitude (area_of b) k x y ≡ without_low (suc p) (magnitude b (y * b.width + x))
  known_before x y rest w k wide high e s =
      let here : ℕ = y * b.width + x in
      s.related.magnitudes here (place b ds c p (to_refine b p rest) (refine-from_bit b p rest) x y wide high)
      ∙ cond-true (get_or w.significant here false) (to_refine b p (here ∷ rest) here) 0
      (refined_significant w x y wide e)
      ∙ first-level here rest (refined_above w x y wide high e s.fresh)

  context-same : (x y : ℕ) (rest : List ℕ) (w : Walk) (k : Known) → x < b.width → y < b.height
      → is_refined b w x y ≡ true → S ((y * b.width + x) ∷ rest) w k
      → refine_context_at b.width w.significant (is_first b p x y) x y ≡ refinement_context (area_of b) p k x y
  unfolding is_first refinement_context
  context-same x y rest w k wide high e s =
      ap₂ (λ (set : List Bool) (n : ℕ). refine_context_at b.width set (n == 1) x y) (sym s.related.significant)
      (sym (ap (λ n. n / 2 ^ suc p) (known_before x y rest w k wide high e s)
      ∙ high_div (magnitude b (y * b.width + x)) (suc p)))

  refined-related : (x y m : ℕ) (rest : List ℕ) (w : Walk) (k : Known) → x < b.width → y < b.height
      → is_refined b w x y ≡ true
      → All (λ j. j ≢ y * b.width + x) rest → m ≡ without_low p (magnitude b (y * b.width + x))
      → Related b ds (suc p) (to_refine b p ((y * b.width + x) ∷ rest)) w k
      → get_or w.significant (y * b.width + x) false ≡ true
      → Related b ds (suc p) (to_refine b p rest) w (with_magnitude (area_of b) x y m k)
  unfolding with_magnitude
  refined-related x y m rest w k wide high e once is r significant =
      let here : ℕ = y * b.width + x in
      record {
        decoder = r.decoder;
        significant = r.significant;
        visited = r.visited;
        size = r.size;
        visited_size = r.visited_size;
        magnitudes_size = length-set k.magnitudes here m ∙ r.magnitudes_size;
        negative_size = r.negative_size;
        signs = r.signs;
        magnitudes = λ i inside. elim (cases_eq i here) [
          | inl same ↦
              subst (λ n. get_or (set k.magnitudes here m) n 0
              ≡ cond (get_or w.significant n false) (to_refine b p rest n) 0) (sym same)
              (get_or-set_same k.magnitudes here m 0
              (rw r.magnitudes_size (place b ds c p (to_refine b p rest) (refine-from_bit b p rest) x y wide high)) ∙ is
              ∙ sym (cond-true (get_or w.significant here false) (to_refine b p rest here) 0 significant
              ∙ done-level here rest once))
          | inr other ↦ get_or-set_other k.magnitudes here i m 0 other ∙ r.magnitudes i inside
              ∙ ap (λ n. cond (get_or w.significant i false) n 0) (other-level here rest i other)
        ];
        above = r.above;
      }

  same_refined : (context : ℕ) (bit : Bool) (w : Walk) (x y : ℕ)
      → is_refined b (with_decision context bit w) x y ≡ is_refined b w x y
  unfolding with_decision is_refined
  same_refined context bit w x y = refl

  next-known : (x y : ℕ) (rest : List ℕ) (w : Walk) (k : Known) (bit : Bool) → x < b.width → y < b.height
      → is_refined b w x y ≡ true
      → S ((y * b.width + x) ∷ rest) w k → bit ≡ plane_bit b p x y
      → known_magnitude (area_of b) k x y + from_bool bit * 2 ^ p ≡ without_low p (magnitude b (y * b.width + x))
  unfolding plane_bit
  next-known x y rest w k bit wide high e s is =
      ap₂ (λ (m : ℕ) (t : Bool). m + from_bool t * 2 ^ p) (known_before x y rest w k wide high e s) is
      ∙ high_bit (magnitude b (y * b.width + x)) p

  refined-moves : (x y : ℕ) (rest : List ℕ) (w : Walk) (k : Known) → x < b.width → y < b.height
      → is_refined b w x y ≡ true
      → All (λ j. j ≢ y * b.width + x) rest
      → Moves ds (S ((y * b.width + x) ∷ rest)) (S rest) w
      (with_decision (refine_context_at b.width w.significant (is_first b p x y) x y) (plane_bit b p x y) w)
      k (refined_read (area_of b) p x y (refinement_context (area_of b) p k x y) k)
  unfolding refined_read
  refined-moves x y rest w k wide high e once =
      let here : ℕ = y * b.width + x in
      let level : ℕ → ℕ = to_refine b p (here ∷ rest) in
      let context : ℕ = refine_context_at b.width w.significant (is_first b p x y) x y in
      let other : ℕ = refinement_context (area_of b) p k x y in
      let told : Walk = with_decision context (plane_bit b p x y) w in
      let one : (Related b ds (suc p) level w k → context ≡ other)
      → Moves ds (Related b ds (suc p) level) (Related b ds (suc p) level) w told k (behind_bit other k) =
      decision-moves b ds c p level (refine-from_bit b p (here ∷ rest)) context other (plane_bit b p x y) w k in
      record {
        back = (decision-moves b ds c p level (refine-from_bit b p (here ∷ rest)) context context
            (plane_bit b p x y) w k (λ r. refl)).back;
        on = λ f s.
            let same : context ≡ other = context-same x y rest w k wide high e s in
            let bit : next_bit other k ≡ plane_bit b p x y =
            subst (λ n. next_bit n k ≡ plane_bit b p x y) same
            (decision-bit b ds c p level (refine-from_bit b p (here ∷ rest)) context
            (plane_bit b p x y) w k f s.related) in
            record {
              related =
                  refined-related x y
                  (known_magnitude (area_of b) k x y + from_bool (next_bit other k) * 2 ^ p) rest told
                  (behind_bit other k) wide high
                  (same_refined context (plane_bit b p x y) w x y ∙ e) once
                  (next-known x y rest w k (next_bit other k) wide high e s bit)
                  ((one (λ r. same)).on f s.related)
                  (ap (λ set. get_or set here false) (told_significant-same context (plane_bit b p x y) w)
                  ∙ refined_significant w x y wide e);
              fresh = subst (λ set. IsFresh b p set told.visited)
                  (sym (told_significant-same context (plane_bit b p x y) w))
                  (subst (IsFresh b p w.significant) (sym (told_visited-same context (plane_bit b p x y) w)) s.fresh);
            };
      }

  sample-moves : (x y : ℕ) (rest : List ℕ) (w : Walk) (k : Known) → x < b.width → y < b.height
      → All (λ j. j ≢ y * b.width + x) rest
      → Moves ds (S ((y * b.width + x) ∷ rest)) (S rest) w (refined b p x w y) k (refinement_at (area_of b) p x k y)
  unfolding refined refinement_at
  sample-moves x y rest w k wide high once =
      either ds (S ((y * b.width + x) ∷ rest)) (S rest) w
      (with_decision (refine_context_at b.width w.significant (is_first b p x y) x y) (plane_bit b p x y) w) w
      k (refined_read (area_of b) p x y (refinement_context (area_of b) p k x y) k) k (is_refined b w x y)
      (known_significant (area_of b) k x y && not (known_visited (area_of b) k x y))
      (refined-same ((y * b.width + x) ∷ rest) w k x y)
      (λ e. refined-moves x y rest w k wide high e once)
      (λ e. passed-moves x y rest w k wide high e once)

  -- ---- a column, and the scan

  rows-moves : (x : ℕ) (rows rest : List ℕ) (w : Walk) (k : Known) → x < b.width → All (λ y. y < b.height) rows
      → Once (places b.width x rows ++ rest)
      → Moves ds (S (places b.width x rows ++ rest)) (S rest) w (fold (refined b p x) w rows) k
      (fold (refinement_at (area_of b) p x) k rows)
  rows-moves x [] rest w k wide high once = stays ds (S rest) w k
  rows-moves x (y ∷ rows) rest w k wide high once =
      followed (sample-moves x y (places b.width x rows ++ rest) w k wide
      (All-head (λ y. y < b.height) y rows high) once.0)
      (rows-moves x rows rest (refined b p x w y) (refinement_at (area_of b) p x k y) wide
      (All-tail (λ y. y < b.height) y rows high) once.1)

  columns-moves : (columns : List Column) (w : Walk) (k : Known) → All (IsWithin b.width b.height) columns
      → Once (column_places b.width columns)
      → Moves ds (S (column_places b.width columns)) (S []) w (fold (column_refined b p) w columns) k
      (fold (refinement_column (area_of b) p) k columns)
  unfolding column_refined refinement_column
  columns-moves [] w k within once = stays ds (S []) w k
  columns-moves (column ∷ columns) w k within once =
      let here = All-head (IsWithin b.width b.height) column columns within in
      followed (rows-moves column.x column.rows (column_places b.width columns) w k here.wide here.high once)
      (columns-moves columns (column_refined b p w column) (refinement_column (area_of b) p k column)
      (All-tail (IsWithin b.width b.height) column columns within)
      (pairwise-right (λ i j. j ≢ i) (places b.width column.x column.rows) (column_places b.width columns) once))

  pub refinement-moves : (w : Walk) (k : Known)
      → Moves ds (S (column_places b.width (scan b.width b.height))) (S []) w (refinement b p w) k
      (refinement_read (area_of b) p k)
  unfolding refinement refinement_read
  refinement-moves w k =
      columns-moves (scan b.width b.height) w k (scan_within b.width b.height) (scan-once b.width b.height)
