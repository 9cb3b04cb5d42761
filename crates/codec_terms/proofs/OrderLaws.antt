-- The packets of a component are all its precincts, in order.
use Rattle.std.proofs.Common.{◌≡◌, ℕ, ◌+◌, ◌<◌, refl, sym, ap, arith, ◌∙◌, zero, suc, Bool, true, false, List, [], ◌∷◌, length, get_or, add-one}
use Rattle.std.specs.Prelude.{◌&&◌, ◌||◌, ◌==◌, nat_lt, sum_by, if◌then◌else◌}
use Rattle.std.specs.List.Sorted.{IsSortedBy}
use Rattle.std.proofs.lemmas.Bool.Decides.{nat_tests}
use Rattle.std.proofs.lemmas.List.Sums.{sum_by-cons}
use Rattle.codec_terms.specs.declared.picture.Shape.{Shape}
use Rattle.codec_terms.specs.Precincts.{Precinct, comes_before, placed, sorted, all_precincts, packet_order}

-- ---- they are the same precincts: any measure of them sums to the same

placed_sum : (f : Precinct → ℕ) (p q : Precinct) (qs : List Precinct) (t : Bool) → sum_by f (placed p qs) ≡ f p + sum_by f qs
    → sum_by f (if t then q ∷ placed p qs else p ∷ q ∷ qs) ≡ f p + sum_by f (q ∷ qs)
placed_sum f p q qs true rest = let a = sum_by-cons f q (placed p qs) in let b = sum_by-cons f q qs in omega (arith, a, b, rest)
placed_sum f p q qs false rest = sum_by-cons f p (q ∷ qs)

sum_by-placed : (f : Precinct → ℕ) (p : Precinct) (qs : List Precinct) → sum_by f (placed p qs) ≡ f p + sum_by f qs
sum_by-placed f p [] = sum_by-cons f p []
sum_by-placed f p (q ∷ qs) = placed_sum f p q qs (comes_before q p) (sum_by-placed f p qs)

sum_by-sorted : (f : Precinct → ℕ) (ps : List Precinct) → sum_by f (sorted ps) ≡ sum_by f ps
sum_by-sorted f [] = refl
sum_by-sorted f (p ∷ ps) = sum_by-placed f p (sorted ps) ∙ (ap (λ (n : ℕ). f p + n) (sum_by-sorted f ps) ∙ sym (sum_by-cons f p ps))

pub sum_by-packet_order : (f : Precinct → ℕ) (shape : Shape) → sum_by f (packet_order shape) ≡ sum_by f (all_precincts shape)
unfolding packet_order
sum_by-packet_order f shape = sum_by-sorted f (all_precincts shape)

-- ---- no one comes before the one in front of it

-- of two triples at most one comes before the other
one_way : (a b c d e f : ℕ)
    → (nat_lt b a || (b == a && (nat_lt d c || (d == c && nat_lt f e)))) ≡ true
    → (nat_lt a b || (a == b && (nat_lt c d || (c == d && nat_lt e f)))) ≡ false
one_way a b c d e f h = grind (arith, nat_tests)

comes_one_way : (p q : Precinct) → comes_before q p ≡ true → comes_before p q ≡ false
comes_one_way p q h = one_way p.y q.y p.x q.x p.resolution q.resolution h

InOrder : List Precinct → Type 0
InOrder [] = Unit {0}
InOrder (p ∷ []) = Unit {0}
InOrder (p ∷ q ∷ qs) = (comes_before q p ≡ false) × InOrder (q ∷ qs)

tail_in_order : (p : Precinct) (qs : List Precinct) → InOrder (p ∷ qs) → InOrder qs
unfolding InOrder
tail_in_order p [] h = tt
tail_in_order p (q ∷ qs) h = h.1

-- the first of what p is placed in is p or the first there
placed_behind : (a p : Precinct) (qs : List Precinct) → comes_before p a ≡ false → InOrder (a ∷ qs) → InOrder (placed p qs) → InOrder (a ∷ placed p qs)
unfolding InOrder
placed_behind a p [] behind before after = (behind, tt)
placed_behind a p (q ∷ qs) behind before after = first (comes_before q p) after
  where
    first : (t : Bool) → InOrder (if t then q ∷ placed p qs else p ∷ q ∷ qs) → InOrder (a ∷ (if t then q ∷ placed p qs else p ∷ q ∷ qs))
    first true rest = (before.0, rest)
    first false rest = (behind, rest)

placed_at : (p q : Precinct) (qs : List Precinct) (t : Bool) → comes_before q p ≡ t → InOrder (q ∷ qs) → InOrder (placed p qs) → InOrder (if t then q ∷ placed p qs else p ∷ q ∷ qs)
unfolding InOrder
placed_at p q qs true e h rest = placed_behind q p qs (comes_one_way p q e) h rest
placed_at p q qs false e h rest = (e, h)

placed_in_order : (p : Precinct) (qs : List Precinct) → InOrder qs → InOrder (placed p qs)
unfolding InOrder
placed_in_order p [] h = tt
placed_in_order p (q ∷ qs) h = placed_at p q qs (comes_before q p) refl h (placed_in_order p qs (tail_in_order q qs h))

sorted_in_order : (ps : List Precinct) → InOrder (sorted ps)
unfolding InOrder
sorted_in_order [] = tt
sorted_in_order (p ∷ ps) = placed_in_order p (sorted ps) (sorted_in_order ps)

at_index : (ps : List Precinct) → InOrder ps → (k : ℕ) (d : Precinct) → suc k < length ps → comes_before (get_or ps (suc k) d) (get_or ps k d) ≡ false
unfolding InOrder
at_index [] h k d inside = absurd (omega arith)
at_index (p ∷ []) h k d inside = absurd (omega arith)
at_index (p ∷ q ∷ qs) h zero d inside = h.0
at_index (p ∷ q ∷ qs) h (suc k) d inside = at_index (q ∷ qs) h.1 k d (omega arith)

sorted_by_order : (ps : List Precinct) → InOrder ps → IsSortedBy comes_before ps
sorted_by_order ps h = λ k d low inside. rw add-one (at_index ps h k d (omega arith))

packets_in_order : (shape : Shape) → InOrder (packet_order shape)
unfolding packet_order
packets_in_order shape = sorted_in_order (all_precincts shape)

pub IsSortedBy-packet_order : (shape : Shape) → IsSortedBy comes_before (packet_order shape)
IsSortedBy-packet_order shape = sorted_by_order (packet_order shape) (packets_in_order shape)
