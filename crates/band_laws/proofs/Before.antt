-- The order of precincts, and that the packets of a component rise in it.
use Rattle.std.proofs.Common.{◌≡◌, ℕ, zero, suc, ◌*◌, ◌/◌, ◌%◌, ◌<◌, ◌≤◌, refl, sym, ap, ap₂, subst, inl, inr, arith, Bool, true, false, List, [], ◌∷◌, length, sum_by, ◌+◌, ◌∙◌}
use Rattle.std.specs.List.{flat_map, range_with_len}
use Rattle.std.specs.Prelude.{◌⊎◌, ◌==◌, ◌&&◌, ◌||◌, nat_lt, if◌then◌else◌}
use Rattle.std.proofs.lemmas.Bool.Decides.{nat_tests}
use Rattle.std.proofs.lemmas.Nat.{pow_pos, le-div}
use Rattle.std.proofs.Math.Nat.{mul-lt-mul_of_pos_right, div-mul-le_self, div-add-mod}
use Rattle.std.proofs.lemmas.Bool.{cases_lt}
use Rattle.codec_terms.specs.declared.picture.Shape.{Shape}
use Rattle.codec_terms.specs.Precincts.{Precinct, precinct_at, precinct_side, precinct_columns, precinct_rows, comes_before, placed, sorted, resolution_precincts, all_precincts, packet_order}
use Rattle.std.proofs.lemmas.List.{length-append}
use Rattle.std.proofs.lemmas.List.FromFn.{length-map-range_with_len}
use Rattle.std.proofs.lemmas.List.Sums.{sum_by-cons}
use Rattle.band_laws.specs.Places.{precinct_count}
use Rattle.band_laws.proofs.Members.{IsIn, found-map}
use Rattle.band_laws.proofs.Rising.{Rises, Rises-flat_map, Rises-map, Rises-range}

abbrev pub IsBefore : Precinct → Precinct → Type 0
IsBefore p q = comes_before p q ≡ true

-- row, column and resolution of one come before those of the other
abbrev is_less : ℕ → ℕ → ℕ → ℕ → ℕ → ℕ → Bool
is_less a c e b d f = nat_lt a b || (a == b && (nat_lt c d || (c == d && nat_lt e f)))

less_once : (a b c d e f : ℕ) → is_less a c e b d f ≡ true → is_less b d f a c e ≡ true → ⊥
less_once a b c d e f h k = grind (arith, nat_tests)

less_through : (a b c d e f g h i : ℕ) → is_less a b c d e f ≡ true → is_less d e f g h i ≡ true → is_less a b c g h i ≡ true
less_through a b c d e f g h i p q = grind (arith, nat_tests)

less_by_resolution : (a b c d e f : ℕ) → e < f → is_less b d f a c e ≡ false → is_less a c e b d f ≡ true
less_by_resolution a b c d e f h k = grind (arith, nat_tests)

less_by_place : (a b c d e f : ℕ) → (a < b) ⊎ ((a ≡ b) × (c < d)) → is_less a c e b d f ≡ true
less_by_place a b c d e f h = grind (arith, nat_tests)

less_in_place : (a b c d e f : ℕ) → a ≡ b → c ≡ d → e < f → is_less a c e b d f ≡ true
less_in_place a b c d e f h k l = grind (arith, nat_tests)

pub before-by_place : (p q : Precinct) → (p.y < q.y) ⊎ ((p.y ≡ q.y) × (p.x < q.x)) → IsBefore p q
before-by_place p q h = less_by_place p.y q.y p.x q.x p.resolution q.resolution h

pub before-in_place : (p q : Precinct) → p.y ≡ q.y → p.x ≡ q.x → p.resolution < q.resolution → IsBefore p q
before-in_place p q h k l = less_in_place p.y q.y p.x q.x p.resolution q.resolution h k l

pub before-once : (p q : Precinct) → IsBefore p q → IsBefore q p → ⊥
before-once p q h k = less_once p.y q.y p.x q.x p.resolution q.resolution h k

before-through : (p q r : Precinct) → IsBefore p q → IsBefore q r → IsBefore p r
before-through p q r h k = less_through p.y p.x p.resolution q.y q.x q.resolution r.y r.x r.resolution h k

-- ---- sorting

in-front : (z p q : Precinct) (rest qs : List Precinct) (t : Bool) → (IsIn z (p ∷ qs) → IsIn z rest) → IsIn z (p ∷ q ∷ qs)
    → IsIn z (if t then q ∷ rest else p ∷ q ∷ qs)
in-front z p q rest qs true more (inl e) = inr (more (inl e))
in-front z p q rest qs true more (inr (inl e)) = inl e
in-front z p q rest qs true more (inr (inr h)) = inr (more (inr h))
in-front z p q rest qs false more h = h

in-placed : (z p : Precinct) (qs : List Precinct) → IsIn z (p ∷ qs) → IsIn z (placed p qs)
in-placed z p [] h = h
in-placed z p (q ∷ qs) h = in-front z p q (placed p qs) qs (comes_before q p) (in-placed z p qs) h

found-front : (z p q : Precinct) (rest qs : List Precinct) (t : Bool) → (IsIn z rest → IsIn z (p ∷ qs))
    → IsIn z (if t then q ∷ rest else p ∷ q ∷ qs) → IsIn z (p ∷ q ∷ qs)
found-front z p q rest qs true more (inl e) = inr (inl e)
found-front z p q rest qs true more (inr h) = elim (more h) [ inl e ↦ inl e | inr behind ↦ inr (inr behind) ]
found-front z p q rest qs false more h = h

found-placed : (z p : Precinct) (qs : List Precinct) → IsIn z (placed p qs) → IsIn z (p ∷ qs)
found-placed z p [] h = h
found-placed z p (q ∷ qs) h = found-front z p q (placed p qs) qs (comes_before q p) (found-placed z p qs) h

in-sorted : (z : Precinct) (ps : List Precinct) → IsIn z ps → IsIn z (sorted ps)
in-sorted z [] h = h
in-sorted z (p ∷ ps) (inl e) = in-placed z p (sorted ps) (inl e)
in-sorted z (p ∷ ps) (inr h) = in-placed z p (sorted ps) (inr (in-sorted z ps h))

found-sorted : (z : Precinct) (ps : List Precinct) → IsIn z (sorted ps) → IsIn z ps
found-sorted z [] h = h
found-sorted z (p ∷ ps) h = elim (found-placed z p (sorted ps) h) [ inl e ↦ inl e | inr more ↦ inr (found-sorted z ps more) ]

-- where q isn't before p, p is before q
abbrev AreApart : Precinct → Precinct → Type 0
AreApart p q = comes_before q p ≡ false → IsBefore p q

Rises-front : (p q : Precinct) (qs : List Precinct) (t : Bool) → comes_before q p ≡ t → Rises IsBefore (q ∷ qs) → AreApart p q
    → Rises IsBefore (placed p qs) → Rises IsBefore (if t then q ∷ placed p qs else p ∷ q ∷ qs)
Rises-front p q qs true e up apart rest = (
  λ z h. elim (found-placed z p qs h) [ inl same ↦ subst (IsBefore q) (sym same) e | inr more ↦ up.0 z more ],
  rest,
)
Rises-front p q qs false e up apart rest =
    let first : IsBefore p q = apart e in
    (λ z h. elim h [ inl same ↦ subst (IsBefore p) (sym same) first | inr more ↦ before-through p q z first (up.0 z more) ], up)

Rises-placed : (p : Precinct) (qs : List Precinct) → Rises IsBefore qs → ((q : Precinct) → IsIn q qs → AreApart p q) → Rises IsBefore (placed p qs)
Rises-placed p [] up apart = (λ z h. absurd h, tt)
Rises-placed p (q ∷ qs) up apart =
    Rises-front p q qs (comes_before q p) refl up (apart q (inl refl)) (Rises-placed p qs up.1 (λ r inside. apart r (inr inside)))

Rises-sorted : (ps : List Precinct) → Rises AreApart ps → Rises IsBefore (sorted ps)
Rises-sorted [] apart = tt
Rises-sorted (p ∷ ps) apart = Rises-placed p (sorted ps) (Rises-sorted ps apart.1) (λ q inside. apart.0 q (found-sorted q ps inside))

-- ---- a component's precincts

side_positive : (r : ℕ) → 0 < precinct_side r
side_positive r = pow_pos _

pub raster : (i j c : ℕ) → i < j → (i / c < j / c) ⊎ ((i / c ≡ j / c) × (i % c < j % c))
raster i j zero h = grind arith
raster i j (suc c) h = elim (cases_lt (i / suc c) (j / suc c)) [
  | inl less ↦ inl less
  | inr most ↦ (
      let least : i / suc c ≤ j / suc c = le-div (i / suc c) j (suc c) (omega arith) (omega (arith, div-mul-le_self i (suc c))) in
      let same : i / suc c ≡ j / suc c = omega arith in
      let whole : suc c * (i / suc c) ≡ suc c * (j / suc c) = ap (λ n. suc c * n) same in
      inr (same, omega (arith, div-add-mod i (suc c), div-add-mod j (suc c))))
]

raster_sides : (i j c s : ℕ) → 0 < s → i < j → (i / c * s < j / c * s) ⊎ ((i / c * s ≡ j / c * s) × (i % c * s < j % c * s))
raster_sides i j c s positive h = elim (raster i j c h) [
  | inl row ↦ inl (mul-lt-mul_of_pos_right row positive)
  | inr (row, column) ↦ inr (ap (λ n. n * s) row, mul-lt-mul_of_pos_right column positive)
]

before-in_resolution : (r c i j : ℕ) → i < j → IsBefore (precinct_at r c i) (precinct_at r c j)
before-in_resolution r c i j h =
    before-by_place (precinct_at r c i) (precinct_at r c j) (raster_sides i j c (precinct_side r) (side_positive r) h)

resolution_of : (shape : Shape) (r : ℕ) (z : Precinct) → IsIn z (resolution_precincts shape r) → z.resolution ≡ r
resolution_of shape r z h = ap (λ p. p.resolution) (found-map (precinct_at r (precinct_columns shape r)) z _ h).is

apart-all : (shape : Shape) → Rises AreApart (all_precincts shape)
apart-all shape = Rises-flat_map (λ (i j : ℕ). i < j) AreApart (resolution_precincts shape) (0 ∷ 1 ∷ 2 ∷ 3 ∷ 4 ∷ 5 ∷ [])
    (Rises-range 0 6)
    (λ r inside. Rises-map (λ (i j : ℕ). i < j) AreApart (precinct_at r (precinct_columns shape r)) _
    (Rises-range 0 (precinct_columns shape r * precinct_rows shape r))
    (λ i j a b h _. before-in_resolution r (precinct_columns shape r) i j h))
    (λ r s p q a b h in_p in_q.
    let first : p.resolution ≡ r = resolution_of shape r p in_p in
    let second : q.resolution ≡ s = resolution_of shape s q in_q in
    less_by_resolution p.y q.y p.x q.x p.resolution q.resolution (omega arith))

pub Rises-packet_order : (shape : Shape) → Rises IsBefore (packet_order shape)
unfolding packet_order
Rises-packet_order shape = Rises-sorted (all_precincts shape) (apart-all shape)

pub in-packet_order : (z : Precinct) (shape : Shape) → IsIn z (all_precincts shape) → IsIn z (packet_order shape)
unfolding packet_order
in-packet_order z shape h = in-sorted z (all_precincts shape) h

pub found-packet_order : (z : Precinct) (shape : Shape) → IsIn z (packet_order shape) → IsIn z (all_precincts shape)
unfolding packet_order
found-packet_order z shape h = found-sorted z (all_precincts shape) h

-- ---- how many there are

length-front : (p q : Precinct) (rest qs : List Precinct) (t : Bool) → length rest ≡ suc (length qs)
    → length (if t then q ∷ rest else p ∷ q ∷ qs) ≡ suc (suc (length qs))
length-front p q rest qs true h = ap suc h
length-front p q rest qs false h = refl

length-placed : (p : Precinct) (qs : List Precinct) → length (placed p qs) ≡ suc (length qs)
length-placed p [] = refl
length-placed p (q ∷ qs) = length-front p q (placed p qs) qs (comes_before q p) (length-placed p qs)

length-sorted : (ps : List Precinct) → length (sorted ps) ≡ length ps
length-sorted [] = refl
length-sorted (p ∷ ps) = length-placed p (sorted ps) ∙ ap suc (length-sorted ps)

length-all_precincts : (shape : Shape) (rs : List ℕ)
    → length (flat_map (resolution_precincts shape) rs) ≡ sum_by (precinct_count shape) rs
length-all_precincts shape [] = refl
length-all_precincts shape (r ∷ rs) =
    length-append (resolution_precincts shape r) (flat_map (resolution_precincts shape) rs)
    ∙ (ap₂ (λ (a b : ℕ). a + b)
    (length-map-range_with_len (precinct_at r (precinct_columns shape r)) 0 (precinct_count shape r))
    (length-all_precincts shape rs)
    ∙ sym (sum_by-cons (precinct_count shape) r rs))

pub length-packet_order : (shape : Shape) → length (packet_order shape) ≡ sum_by (precinct_count shape) (range_with_len 0 6)
unfolding packet_order
length-packet_order shape = length-sorted (all_precincts shape) ∙ length-all_precincts shape (range_with_len 0 6)
