-- A bit-plane's passes, read beside the encoder's: between two planes the reader knows each magnitude without its bits
-- below the upper one.
use Rattle.std.proofs.Common.{◌≡◌, ◌≢◌, ℕ, zero, suc, ◌*◌, ◌/◌, ◌%◌, ◌<◌, ◌^◌, refl, sym, ap, ◌∙◌, arith, Bool, true, false, cond, ◌&&◌, List, [], ◌∷◌, ◌++◌, length, map, get_or, replicate, pos, unsigned_abs, fold, inl, inr, append-nil, div-add-mod'}
use Rattle.std.specs.Prelude.{nat_le}
use Rattle.std.proofs.lemmas.Bool.{cases_Bool, le-leb, lt-leb, false≢true, and_right}
use Rattle.std.proofs.lemmas.Nat.{div_below, mod_below}
use Rattle.std.proofs.lemmas.List.{length-replicate, get_or-replicate, get_or-map}
use Rattle.codec_terms.specs.Mq.{Decision}
use Rattle.codec_terms.specs.Contexts.{scan}
use Rattle.codec_terms.specs.Passes.{Propagation, Refinement, Cleanup}
use Rattle.codec_terms.specs.BlockDecisions.{Block, Walk, no_samples, column_cleaned, propagation, refinement, cleanup, pass_told, plane_start}
use Rattle.codec_terms.specs.BlockReading.{Known, none_of, cleanup_column, propagation_read, refinement_read, cleanup_read}
use Rattle.codec_terms.proofs.WalkLaws.{behind, fold-next_told-behind}
use Rattle.block_read_laws.proofs.Moves.{Moves, followed}
use Rattle.block_read_laws.proofs.Numbers.{without_low}
use Rattle.block_read_laws.proofs.Related.{area_of, magnitude, Coded, Related, with_level}
use Rattle.block_read_laws.proofs.CleanupRead.{own, cleanup-moves}
use Rattle.block_read_laws.proofs.PropagationRead.{still_above, Propagates, propagation-moves}
use Rattle.block_read_laws.proofs.RefinementRead.{still, still-false, to_refine, Refines, refinement-moves}
use Rattle.block_read_laws.proofs.Samples.{column_places, at_scan}

-- the samples with a bit from q on
abbrev pub from_plane : Block → ℕ → List Bool
from_plane b q = map (λ v. nat_le (2 ^ q) (unsigned_abs v)) b.values

-- behind a plane's cleanup the significant samples are those with a bit from it on
pub record LeavesExact (b : Block) : Type 0 where
  pub first : (p : ℕ) → (cleanup b p (plane_start b p)).significant ≡ from_plane b p
  pub further : (p : ℕ)
      → (cleanup b p (refinement b p (propagation b p (plane_start b p)))).significant ≡ from_plane b p

-- all planes from q on are read
pub record Between (b : Block) (ds : List Decision) (q : ℕ) (w : Walk) (k : Known) : Type 0 where
  pub related : Related b ds q (own b q) w k
  pub exact : w.significant ≡ from_plane b q
  pub none : w.visited ≡ no_samples b

pub exact_at : (b : Block) (q i : ℕ) (set : List Bool) → set ≡ from_plane b q → i < length b.values
    → get_or set i false ≡ nat_le (2 ^ q) (magnitude b i)
exact_at b q i set exact inside =
    ap (λ s. get_or s i false) exact ∙ get_or-map (λ v. nat_le (2 ^ q) (unsigned_abs v)) b.values i (pos 0) false inside

twice : (t : Bool) (m n : ℕ) → cond t m 0 ≡ cond t (cond t m n) 0
twice true m n = refl
twice false m n = refl

abbrev the_walk : List Decision → List Bool → List Bool → Walk
the_walk ds significant visited = record { decisions = ds; significant = significant; visited = visited }

same_walk : (d d' : List Decision) (s s' v v' : List Bool) → d ≡ d' → s ≡ s' → v ≡ v'
    → the_walk d s v ≡ the_walk d' s' v'
same_walk d d' s s' v v' e h k = λ i. the_walk (e i) (h i) (k i)

module _ (b : Block) (ds : List Decision) (c : Coded b ds) (leaves : LeavesExact b) (p : ℕ) where
  -- ---- from a plane to its passes

  to-propagation : (w : Walk) (k : Known) → Between b ds (suc p) w k → Propagates b ds p w k
  to-propagation w k s = record {
    related = with_level b ds (suc p) (own b (suc p)) (still_above b p) w k s.related
        (λ i inside. rw (exact_at b (suc p) i w.significant s.exact inside)
        (twice (nat_le (2 ^ suc p) (magnitude b i)) (without_low (suc p) (magnitude b i))
        (without_low p (magnitude b i))));
    fresh = record {
      old = λ i inside e. absurd (false≢true
          (sym (ap (λ set. get_or set i false) s.none ∙ get_or-replicate (length b.values) i false false inside) ∙ e));
      new = λ i inside e below. absurd (false≢true
          (sym (exact_at b (suc p) i w.significant s.exact inside ∙ lt-leb (2 ^ suc p) (magnitude b i) below) ∙ e));
    };
  }

  some_width : (m n i : ℕ) → i < m * n → 0 < m
  some_width zero n i below = absurd (omega arith)
  some_width (suc m) n i below = omega arith

  all-to-come : (i : ℕ) → i < length b.values → still i (column_places b.width (scan b.width b.height)) ≡ true
  all-to-come i inside =
      let below : i < b.width * b.height = rw (← c.whole) inside in
      let some : 0 < b.width = some_width b.width b.height i below in
      let all : List ℕ = column_places b.width (scan b.width b.height) in
      elim (cases_Bool (still i all)) [
        | inl here ↦ here
        | inr none ↦ absurd (at_scan b.width (λ j. j ≢ i) b.height (still-false i all none) (i % b.width) (i / b.width)
            (mod_below i b.width some) (div_below i b.width b.height some (omega arith)) (div-add-mod' i b.width))
      ]

  to-refinement : (w : Walk) (k : Known) → Propagates b ds p w k
      → Refines b ds p (column_places b.width (scan b.width b.height)) w k
  to-refinement w k s = record {
    related =
        with_level b ds (suc p) (still_above b p)
        (to_refine b p (column_places b.width (scan b.width b.height))) w k s.related
        (λ i inside. rw (all-to-come i inside) (ap (λ t. cond (get_or w.significant i false)
        (cond t (without_low (suc p) (magnitude b i)) (without_low p (magnitude b i))) 0)
        (sym (and_true (nat_le (2 ^ suc p) (magnitude b i))))));
    fresh = s.fresh;
  }
    where
      and_true : (t : Bool) → (t && true) ≡ t
      and_true true = refl
      and_true false = refl

  to-cleanup : (w : Walk) (k : Known) → Refines b ds p [] w k → Related b ds (suc p) (own b p) w k
  to-cleanup w k s =
      with_level b ds (suc p) (to_refine b p []) (own b p) w k s.related
      (λ i inside. ap
      (λ t. cond (get_or w.significant i false)
      (cond t (without_low (suc p) (magnitude b i)) (without_low p (magnitude b i))) 0)
      (and_right (nat_le (2 ^ suc p) (magnitude b i)) false refl))

  -- where no sample has a bit above p
  to-first : (w : Walk) (k : Known) → ((i : ℕ) → i < length b.values → magnitude b i < 2 ^ suc p)
      → Between b ds (suc p) w k
      → Related b ds (suc p) (own b p) w k
  to-first w k small s =
      with_level b ds (suc p) (own b (suc p)) (own b p) w k s.related
      (λ i inside. rw
      (exact_at b (suc p) i w.significant s.exact inside
      ∙ lt-leb (2 ^ suc p) (magnitude b i) (small i inside)) refl)

  -- ---- behind the plane

  walk-is : (w : Walk) (k : Known) → Between b ds (suc p) w k → w ≡ behind w.decisions (plane_start b p)
  walk-is w k s =
      same_walk w.decisions (w.decisions ++ []) w.significant (plane_start b p).significant w.visited (no_samples b)
      (sym (append-nil w.decisions)) s.exact s.none

  first-exact : (w : Walk) (k : Known) → Between b ds (suc p) w k → (cleanup b p w).significant ≡ from_plane b p
  unfolding pass_told
  first-exact w k s =
      ap (λ (v : Walk). (cleanup b p v).significant) (walk-is w k s)
      ∙ ap (λ (v : Walk). v.significant) (fold-next_told-behind b w.decisions (plane_start b p) ((p, Cleanup) ∷ []))
      ∙ leaves.first p

  further-exact : (w : Walk) (k : Known) → Between b ds (suc p) w k
      → (cleanup b p (refinement b p (propagation b p w))).significant ≡ from_plane b p
  unfolding pass_told
  further-exact w k s =
      ap (λ (v : Walk). (cleanup b p (refinement b p (propagation b p v))).significant) (walk-is w k s)
      ∙ ap (λ (v : Walk). v.significant)
      (fold-next_told-behind b w.decisions (plane_start b p) ((p, Propagation) ∷ (p, Refinement) ∷ (p, Cleanup) ∷ []))
      ∙ leaves.further p

  no_samples-same : none_of (area_of b) ≡ no_samples b
  no_samples-same = ap (λ n. replicate n false) (sym c.whole)

  cleared : (v : Walk) (j : Known) → Related b ds (suc p) (own b p) v j → v.significant ≡ from_plane b p
      → Between b ds p (record v { visited = no_samples b }) (record j { visited = none_of (area_of b) })
  cleared v j r exact = record {
    related = record {
      decoder = r.decoder;
      significant = r.significant;
      visited = no_samples-same;
      size = r.size;
      visited_size = length-replicate (length b.values) false;
      magnitudes_size = r.magnitudes_size;
      negative_size = r.negative_size;
      signs = r.signs;
      magnitudes = r.magnitudes;
      above = λ i inside from. exact_at b p i v.significant exact inside ∙ le-leb (2 ^ p) (magnitude b i) from;
    };
    exact = exact;
    none = refl;
  }

  cleared-moves : (T : Walk → Known → Type 0) (w v : Walk) (k j : Known)
      → Moves ds T (Related b ds (suc p) (own b p)) w v k j → (T w k → (cleanup b p v).significant ≡ from_plane b p)
      → Moves ds T (Between b ds p) w (cleanup b p v) k (cleanup_read (area_of b) p j)
  unfolding cleanup cleanup_read
  cleared-moves T w v k j m exact =
      let n : Moves ds T (Related b ds (suc p) (own b p)) w (fold (column_cleaned b p) v (scan b.width b.height))
      k (fold (cleanup_column (area_of b) p) j (scan b.width b.height)) = followed m (cleanup-moves b ds c p v j) in
      record {
        back = n.back;
        on = λ f s. cleared (fold (column_cleaned b p) v (scan b.width b.height))
            (fold (cleanup_column (area_of b) p) j (scan b.width b.height))
            (n.on f s) (exact s);
      }

  pub first-moves : (w : Walk) (k : Known) → ((i : ℕ) → i < length b.values → magnitude b i < 2 ^ suc p)
      → Moves ds (Between b ds (suc p)) (Between b ds p) w (cleanup b p w) k (cleanup_read (area_of b) p k)
  first-moves w k small =
      cleared-moves (Between b ds (suc p)) w w k k (record { back = λ f. f; on = λ f s. to-first w k small s })
      (first-exact w k)

  pub further-moves : (w : Walk) (k : Known)
      → Moves ds (Between b ds (suc p)) (Between b ds p) w (cleanup b p (refinement b p (propagation b p w)))
      k (cleanup_read (area_of b) p (refinement_read (area_of b) p (propagation_read (area_of b) p k)))
  further-moves w k =
      let v : Walk = propagation b p w in
      let j : Known = propagation_read (area_of b) p k in
      let one : Moves ds (Propagates b ds p) (Propagates b ds p) w v k j = propagation-moves b ds c p w k in
      let two = refinement-moves b ds c p v j in
      cleared-moves (Between b ds (suc p)) w (refinement b p v) k (refinement_read (area_of b) p j)
      (record {
        back = λ f. one.back (two.back f);
        on = λ f s. to-cleanup (refinement b p v) (refinement_read (area_of b) p j)
            (two.on f (to-refinement v j (one.on (two.back f) (to-propagation w k s))));
      })
      (further-exact w k)
