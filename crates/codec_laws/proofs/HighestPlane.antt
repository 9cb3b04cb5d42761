-- On a block's highest bit-plane no sample is significant before the cleanup, so that the passes before it change
-- nothing.
use Rattle.std.proofs.Common.{◌≡◌, ℕ, zero, suc, ◌+◌, ◌*◌, ◌^◌, ◌<◌, ◌≤◌, refl, ap, ◌∙◌, arith, Bool, false, List, [], ◌∷◌, length, map, get_or, All, pos, unsigned_abs, fold, max, inl, inr}
use Rattle.std.specs.Prelude.{◌==◌, not}
use Rattle.std.specs.Int.{from_bool}
use Rattle.std.proofs.lemmas.Bool.{cond-false, lt-leb, and_left, and_right, cases_lt}
use Rattle.std.proofs.lemmas.List.{length-map, get_or-map, get_or_past}
use Rattle.std.proofs.lemmas.List.Folds.{fold_stays}
use Rattle.std.proofs.lemmas.List.Elements.{All-nil, All-cons, All-map}
use Rattle.codec_terms.specs.declared.picture.BandKind.{BandKind}
use Rattle.codec_terms.specs.declared.picture.BandKind.TheVariants.{LL, HL, LH, HH}
use Rattle.codec_terms.specs.Contexts.{is_in, horizontal, vertical, diagonal, zero_context, zero_context_at, scan}
use Rattle.codec_terms.specs.BlockDecisions.{Block, Walk, is_significant, is_visited, zero_context_of, bit_told, is_reached, visited_at, propagated, is_refined, refined, column_propagated, column_refined, propagation, refinement, cleanup, is_significant_above, plane_start, plane_count}
use Rattle.codec_laws.proofs.Planes.{greatest-below, within-bit_length}

-- no sample is in the set
abbrev pub IsEmpty : List Bool → Type 0
IsEmpty samples = (i : ℕ) → get_or samples i false ≡ false

is_in-empty : (width : ℕ) (samples : List Bool) (x y : ℕ) → IsEmpty samples → is_in width samples x y ≡ false
unfolding is_in
is_in-empty width samples zero y none = refl
is_in-empty width samples (suc x) zero none = refl
is_in-empty width samples (suc x) (suc y) none = and_right _ (get_or samples (y * width + x) false) (none (y * width + x))

none_of_two : (s t : Bool) → s ≡ false → t ≡ false → from_bool s + from_bool t ≡ 0
none_of_two s t p q = rw (p, q) refl

zero_context-zero : (kind : BandKind) → zero_context kind 0 0 0 ≡ 0
unfolding zero_context
zero_context-zero LL = refl
zero_context-zero HL = refl
zero_context-zero LH = refl
zero_context-zero HH = refl

zero_context-none : (kind : BandKind) (h v d : ℕ) → h ≡ 0 → v ≡ 0 → d ≡ 0 → zero_context kind h v d ≡ 0
zero_context-none kind h v d p q r = rw (p, q, r) (zero_context-zero kind)

zero_context_at-empty : (kind : BandKind) (width : ℕ) (samples : List Bool) (x y : ℕ) → IsEmpty samples → zero_context_at kind width samples x y ≡ 0
unfolding zero_context_at horizontal vertical diagonal
zero_context_at-empty kind width samples x y none =
    zero_context-none kind (horizontal width samples x y) (vertical width samples x y) (diagonal width samples x y)
    (none_of_two _ _ (out x (suc y)) (out (suc (suc x)) (suc y)))
    (none_of_two _ _ (out (suc x) y) (out (suc x) (suc (suc y))))
    (none_of_four _ _ _ _ (out x y) (out (suc (suc x)) y) (out x (suc (suc y))) (out (suc (suc x)) (suc (suc y))))
  where
    out : (x y : ℕ) → is_in width samples x y ≡ false
    out x y = is_in-empty width samples x y none

    none_of_four : (s t u v : Bool) → s ≡ false → t ≡ false → u ≡ false → v ≡ false → from_bool s + from_bool t + from_bool u + from_bool v ≡ 0
    none_of_four s t u v p q r z = rw (p, q, r, z) refl

module _ (b : Block) (p : ℕ) (w : Walk) (none : IsEmpty w.significant) where
  propagated-nothing : (x y : ℕ) → propagated b p x w y ≡ w
  unfolding propagated is_reached zero_context_of
  propagated-nothing x y =
      cond-false (is_reached b w x y) (visited_at b x y (bit_told b p x y w)) w
      (and_right (not (is_significant b w x y)) (not (zero_context_of b w x y == 0)) (ap (λ n. not (n == 0)) (zero_context_at-empty b.kind b.width w.significant x y none)))

  refined-nothing : (x y : ℕ) → refined b p x w y ≡ w
  unfolding refined is_refined
  refined-nothing x y =
      cond-false (is_refined b w x y) _ w (and_left (is_significant b w x y) (not (is_visited b w x y)) (is_in-empty b.width w.significant (suc x) (suc y) none))

  propagation-nothing : propagation b p w ≡ w
  unfolding propagation column_propagated
  propagation-nothing =
      fold_stays (column_propagated b p) w (λ column. fold_stays (propagated b p column.x) w (propagated-nothing column.x) column.rows) (scan b.width b.height)

  refinement-nothing : refinement b p w ≡ w
  unfolding refinement column_refined
  refinement-nothing =
      fold_stays (column_refined b p) w (λ column. fold_stays (refined b p column.x) w (refined-nothing column.x) column.rows) (scan b.width b.height)

-- ---- the highest plane

le-greatest : (a : ℕ) (xs : List ℕ) → (a ≤ fold max a xs) × All (λ n. n ≤ fold max a xs) xs
le-greatest a [] = (omega arith, All-nil (λ n. n ≤ a))
le-greatest a (x ∷ xs) =
    let rest = le-greatest (max a x) xs in
    let most : max a x ≤ fold max (max a x) xs = rest.0 in
    (omega arith, All-cons (λ n. n ≤ fold max (max a x) xs) x xs (omega arith) rest.1)

values_below : (b : Block) (k : ℕ) → All (λ v. unsigned_abs v < 2 ^ 64) b.values → plane_count b ≤ k → (i : ℕ) → i < length b.values → unsigned_abs (get_or b.values i (pos 0)) < 2 ^ k
values_below b k small few i inside =
    let sizes : List ℕ = map unsigned_abs b.values in
    let greatest : fold max 0 sizes < 2 ^ k =
    within-bit_length (fold max 0 sizes) k (greatest-below (2 ^ 64) 0 sizes (omega arith) (All-map (λ n. n < 2 ^ 64) unsigned_abs b.values small)) few in
    let one : get_or sizes i 0 ≤ fold max 0 sizes = (le-greatest 0 sizes).1 i 0 (rw (length-map b.values unsigned_abs) inside) in
    let is : get_or sizes i 0 ≡ unsigned_abs (get_or b.values i (pos 0)) = get_or-map unsigned_abs b.values i (pos 0) 0 inside in
    omega (arith, greatest, one, is)

pub start-empty : (b : Block) (p : ℕ) → All (λ v. unsigned_abs v < 2 ^ 64) b.values → plane_count b ≤ suc p → IsEmpty (plane_start b p).significant
start-empty b p small few i = elim (cases_lt i (length b.values)) [
  | inl inside ↦ get_or-map (is_significant_above p) b.values i (pos 0) false inside ∙ lt-leb (2 ^ suc p) (unsigned_abs (get_or b.values i (pos 0))) (values_below b (suc p) small few i inside)
  | inr past ↦ get_or_past (map (is_significant_above p) b.values) i false (rw (length-map b.values (is_significant_above p)) past)
]

pub propagation-highest : (b : Block) (p : ℕ) → All (λ v. unsigned_abs v < 2 ^ 64) b.values → plane_count b ≤ suc p → propagation b p (plane_start b p) ≡ plane_start b p
propagation-highest b p small few = propagation-nothing b p (plane_start b p) (start-empty b p small few)

pub refinement-highest : (b : Block) (p : ℕ) → All (λ v. unsigned_abs v < 2 ^ 64) b.values → plane_count b ≤ suc p → refinement b p (plane_start b p) ≡ plane_start b p
refinement-highest b p small few = refinement-nothing b p (plane_start b p) (start-empty b p small few)

pub decisions-highest : (b : Block) (p : ℕ) → All (λ v. unsigned_abs v < 2 ^ 64) b.values → plane_count b ≤ suc p → (cleanup b p (refinement b p (propagation b p (plane_start b p)))).decisions ≡ (cleanup b p (plane_start b p)).decisions
decisions-highest b p small few =
    ap (λ (w : Walk). (cleanup b p w).decisions) (ap (refinement b p) (propagation-highest b p small few) ∙ refinement-highest b p small few)
