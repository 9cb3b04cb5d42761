-- The significance propagation pass, read beside the encoder's.
use Rattle.std.proofs.Common.{◌≡◌, ℕ, suc, ◌+◌, ◌*◌, ◌<◌, ◌^◌, refl, sym, ap, ap₂, subst, ◌∙◌, Bool, true, false, cond, ◌&&◌, not, List, length, get_or, set, inl, inr}
use Rattle.std.specs.Prelude.{◌==◌, nat_le}
use Rattle.std.proofs.lemmas.Bool.{and_parts, not-true, cond_both, cases_eq, lt-leb, cond-false}
use Rattle.std.proofs.lemmas.List.{length-set, get_or-set_same, get_or-set_other}
use Rattle.codec_terms.specs.Mq.{Decision}
use Rattle.codec_terms.specs.Contexts.{contains, with_sample, Column, scan}
use Rattle.codec_terms.specs.BlockDecisions.{Block, Walk, plane_bit, with_decision, is_significant, zero_context_of, sign_told, bit_told, is_reached, visited_at, propagated, column_propagated, propagation}
use Rattle.codec_terms.specs.BlockReading.{Known, zero_bit_read, propagation_reads, marked_visited, propagation_at, propagation_column, propagation_read}
use Rattle.block_read_laws.proofs.Moves.{Moves, stays, either, fold_moves}
use Rattle.block_read_laws.proofs.Numbers.{without_low, high_one}
use Rattle.block_read_laws.proofs.Related.{area_of, magnitude, Coded, Related, FromBit, contains-inside, place, none-above, zero_context-same, bit-moves}
use Rattle.block_read_laws.proofs.Samples.{IsWithin, scan_within}

-- a sample with a bit above p still lacks that of p, another one that is significant has it
abbrev pub still_above : Block → ℕ → ℕ → ℕ
still_above b p i =
    cond (nat_le (2 ^ suc p) (magnitude b i)) (without_low (suc p) (magnitude b i)) (without_low p (magnitude b i))

still-from_bit : (b : Block) (p : ℕ) → FromBit b p (still_above b p)
still-from_bit b p i from below =
    cond-false (nat_le (2 ^ suc p) (magnitude b i)) (without_low (suc p) (magnitude b i))
    (without_low p (magnitude b i)) (lt-leb (2 ^ suc p) (magnitude b i) below)
    ∙ high_one (magnitude b i) p from below

-- the visited samples have no bit above p, and the significant ones without such a bit are visited
pub record IsFresh (b : Block) (p : ℕ) (significant visited : List Bool) : Type 0 where
  pub old : (i : ℕ) → i < length b.values → get_or visited i false ≡ true → magnitude b i < 2 ^ suc p
  pub new : (i : ℕ) → i < length b.values → get_or significant i false ≡ true → magnitude b i < 2 ^ suc p
      → get_or visited i false ≡ true

pub record Propagates (b : Block) (ds : List Decision) (p : ℕ) (w : Walk) (k : Known) : Type 0 where
  pub related : Related b ds (suc p) (still_above b p) w k
  pub fresh : IsFresh b p w.significant w.visited

-- a bit and its sign change one sample
sign-other : (b : Block) (x y : ℕ) (w : Walk) (i : ℕ) → (i ≡ y * b.width + x → ⊥)
    → get_or (sign_told b x y w).significant i false ≡ get_or w.significant i false
unfolding sign_told with_decision
sign-other b x y w i other = get_or-set_other w.significant (y * b.width + x) i true false other

bit-other : (b : Block) (p x y : ℕ) (w : Walk) (i : ℕ) → (i ≡ y * b.width + x → ⊥)
    → get_or (bit_told b p x y w).significant i false ≡ get_or w.significant i false
unfolding bit_told with_decision
bit-other b p x y w i other =
    let told : Walk = with_decision (zero_context_of b w x y) (plane_bit b p x y) w in
    cond_both (plane_bit b p x y) (sign_told b x y told) told
    (λ (v : Walk). get_or v.significant i false ≡ get_or w.significant i false)
    (λ e. sign-other b x y told i other) (λ e. refl)

bit-visited : (b : Block) (p x y : ℕ) (w : Walk) → (bit_told b p x y w).visited ≡ w.visited
unfolding bit_told with_decision sign_told
bit-visited b p x y w =
    let told : Walk = with_decision (zero_context_of b w x y) (plane_bit b p x y) w in
    cond_both (plane_bit b p x y) (sign_told b x y told) told (λ (v : Walk). v.visited ≡ w.visited) (λ e. refl)
    (λ e. refl)

module _ (b : Block) (ds : List Decision) (c : Coded b ds) (p : ℕ) where
  abbrev S : Walk → Known → Type 0
  S = Propagates b ds p

  reached-same : (w : Walk) (k : Known) (x y : ℕ) → S w k → is_reached b w x y ≡ propagation_reads (area_of b) k x y
  unfolding is_reached propagation_reads
  reached-same w k x y s =
      ap₂ (λ (t : Bool) (n : ℕ). not t && not (n == 0))
      (ap (λ set. contains b.width set x y) (sym s.related.significant))
      (zero_context-same b ds c p (still_above b p) (still-from_bit b p) w k x y s.related)

  reached_none : (w : Walk) (x y : ℕ) → x < b.width → is_reached b w x y ≡ true
      → get_or w.significant (y * b.width + x) false ≡ false
  unfolding is_reached
  reached_none w x y wide e =
      sym (contains-inside b.width w.significant x y wide)
      ∙ not-true (is_significant b w x y)
      (and_parts (not (is_significant b w x y)) (not (zero_context_of b w x y == 0)) e).0

  visited-related : (x y : ℕ) (v : Walk) (j : Known) → Related b ds (suc p) (still_above b p) v j
      → Related b ds (suc p) (still_above b p) (visited_at b x y v) (marked_visited (area_of b) x y j)
  unfolding visited_at marked_visited
  visited-related x y v j r = record {
    decoder = r.decoder;
    significant = r.significant;
    visited = ap (λ s. with_sample b.width s x y) r.visited;
    size = r.size;
    visited_size = length-set v.visited (y * b.width + x) true ∙ r.visited_size;
    magnitudes_size = r.magnitudes_size;
    negative_size = r.negative_size;
    signs = r.signs;
    magnitudes = r.magnitudes;
    above = r.above;
  }

  visited-fresh : (x y : ℕ) (w : Walk) → x < b.width → y < b.height → length w.visited ≡ length b.values
      → magnitude b (y * b.width + x) < 2 ^ suc p → IsFresh b p w.significant w.visited
      → IsFresh b p (visited_at b x y (bit_told b p x y w)).significant (visited_at b x y (bit_told b p x y w)).visited
  unfolding visited_at
  visited-fresh x y w wide high size below f =
      let here : ℕ = y * b.width + x in
      let inside : here < length b.values = place b ds c p (still_above b p) (still-from_bit b p) x y wide high in
      let is : set w.visited here true
      ≡ set (bit_told b p x y w).visited here true = ap (λ s. set s here true) (sym (bit-visited b p x y w)) in
      subst (IsFresh b p (bit_told b p x y w).significant) is
      (record {
        old = λ i within visited. elim (cases_eq i here) [
          | inl same ↦ subst (λ n. magnitude b n < 2 ^ suc p) (sym same) below
          | inr other ↦ f.old i within (sym (get_or-set_other w.visited here i true false other) ∙ visited)
        ];
        new = λ i within significant low. elim (cases_eq i here) [
          | inl same ↦
              subst (λ n. get_or (set w.visited here true) n false ≡ true) (sym same)
              (get_or-set_same w.visited here true false (rw size inside))
          | inr other ↦ get_or-set_other w.visited here i true false other
              ∙ f.new i within (sym (bit-other b p x y w i other) ∙ significant) low
        ];
      })

  visited-decisions : (x y : ℕ) (v : Walk) → (visited_at b x y v).decisions ≡ v.decisions
  unfolding visited_at
  visited-decisions x y v = refl

  reached-moves : (x y : ℕ) (w : Walk) (k : Known) → x < b.width → y < b.height → is_reached b w x y ≡ true
      → Moves ds S S w (visited_at b x y (bit_told b p x y w)) k
      (marked_visited (area_of b) x y (zero_bit_read (area_of b) p x y k))
  unfolding visited_at
  reached-moves x y w k wide high e =
      let level : ℕ → ℕ = still_above b p in
      let none = reached_none w x y wide e in
      let bit : Moves ds (Related b ds (suc p) level) (Related b ds (suc p) level) w (bit_told b p x y w) k
      (zero_bit_read (area_of b) p x y k) =
      bit-moves b ds c p level (still-from_bit b p) x y w k wide high none in
      record {
        back = λ f. bit.back f;
        on = λ f s. record {
          related = visited-related x y (bit_told b p x y w) (zero_bit_read (area_of b) p x y k) (bit.on f s.related);
          fresh = visited-fresh x y w wide high s.related.visited_size
              (none-above b ds c p level (still-from_bit b p) w k s.related (y * b.width + x)
              (place b ds c p level (still-from_bit b p) x y wide high) none)
              s.fresh;
        };
      }

  propagated-moves : (x y : ℕ) (w : Walk) (k : Known) → x < b.width → y < b.height
      → Moves ds S S w (propagated b p x w y) k (propagation_at (area_of b) p x k y)
  unfolding propagated propagation_at
  propagated-moves x y w k wide high =
      either ds S S w (visited_at b x y (bit_told b p x y w)) w k
      (marked_visited (area_of b) x y (zero_bit_read (area_of b) p x y k)) k
      (is_reached b w x y) (propagation_reads (area_of b) k x y) (reached-same w k x y)
      (reached-moves x y w k wide high) (λ e. stays ds S w k)

  column-moves : (column : Column) (w : Walk) (k : Known) → IsWithin b.width b.height column
      → Moves ds S S w (column_propagated b p w column) k (propagation_column (area_of b) p k column)
  unfolding column_propagated propagation_column
  column-moves column w k within =
      fold_moves ds S (λ y. y < b.height) (propagated b p column.x) (propagation_at (area_of b) p column.x)
      (λ y w k high. propagated-moves column.x y w k within.wide high) column.rows w k within.high

  pub propagation-moves : (w : Walk) (k : Known)
      → Moves ds S S w (propagation b p w) k (propagation_read (area_of b) p k)
  unfolding propagation propagation_read
  propagation-moves w k =
      fold_moves ds S (IsWithin b.width b.height) (column_propagated b p)
      (propagation_column (area_of b) p) column-moves
      (scan b.width b.height) w k (scan_within b.width b.height)
