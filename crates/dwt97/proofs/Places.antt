-- Rows of a plane, of which one is lifted.
use Rattle.std.proofs.Common.{◌≡◌, ◌≢◌, ℕ, ◌+◌, ◌-◌, ◌*◌, ◌<◌, ◌≤◌, refl, sym, ap, subst, arith, ◌∙◌, List, length, drop, set, min, ℤ, pos, inl, inr, ◌⊎◌, get_or-set_same, get_or-set_other}
use Rattle.std.specs.Int.{w32}
use Rattle.std.proofs.lemmas.Bool.{cases_order, cases_eq}
use Rattle.std.proofs.lemmas.List.{length-take, length-drop, ext_get_or, get_or-take, get_or-drop}
use Rattle.std.proofs.lemmas.List.FromFn.{fill_by_all}
use Rattle.std.proofs.Math.Nat.{mul-le-mul_right}
use Rattle.codec_terms.specs.Wavelet.{sample}
use Rattle.wave_laws.specs.Rows.{lifted_by, lifted_row}
use Rattle.dwt97.specs.Lifting.{FitsLifts}
use Rattle.dwt97.specs.Plane.{row_in}
use Rattle.dwt97.proofs.Lifted.{IsLifted}

-- a place outside of the n places from own on
Outside : ℕ → ℕ → ℕ → Type 0
Outside own n j = (j < own) ⊎ (own + n ≤ j)

-- the first n samples of a row that begins at own were lifted, between those at above and below
pub record IsRowTo (k : ℤ) (own above below n : ℕ) (old new : List ℤ) : Type 0 where
  pub front : (x : ℕ) → x < n → IsLifted w32 k (sample old (own + x)) (sample old (above + x)) (sample old (below + x)) (sample new (own + x))
  pub left : (j : ℕ) → j < own → sample new j ≡ sample old j
  pub right : (j : ℕ) → own + n ≤ j → sample new j ≡ sample old j

pub IsRowTo-none : (k : ℤ) (own above below : ℕ) (old : List ℤ) → IsRowTo k own above below 0 old old
IsRowTo-none k own above below old = record { front = λ x h. absurd (omega arith); left = λ j h. refl; right = λ j h. refl }

-- rows of so many columns that don't lie over each other
pub Apart : (c own other : ℕ) → Type 0
Apart c own other = (other + c ≤ own) ⊎ (own + c ≤ other)

kept : (k : ℤ) (c own above below n other x : ℕ) (old new : List ℤ) → IsRowTo k own above below n old new → n ≤ c → x < c → Apart c own other → sample new (other + x) ≡ sample old (other + x)
unfolding Apart
kept k c own above below n other x old new so small inside apart = elim apart [ inl h ↦ so.left (other + x) (omega arith) | inr h ↦ so.right (other + x) (omega arith) ]

-- the same, with the samples as the code reads and stores them
pub IsRowTo-step : (k : ℤ) (c own above below n : ℕ) (old new : List ℤ) (v o a b r : ℤ) → n < c → own + n < length new → Apart c own above → Apart c own below → IsRowTo k own above below n old new
    → v ≡ r → o ≡ sample new (own + n) → a ≡ sample new (above + n) → b ≡ sample new (below + n) → IsLifted w32 k o a b r
    → IsRowTo k own above below (n + 1) old (set new (own + n) v)
IsRowTo-step k c own above below n old new v o a b r small inside apart apart' so e f g h is =
    let e1 : o ≡ sample old (own + n) = f ∙ so.right (own + n) (omega arith) in
    let e2 : a ≡ sample old (above + n) = g ∙ kept k c own above below n above n old new so (omega arith) small apart in
    let e3 : b ≡ sample old (below + n) = h ∙ kept k c own above below n below n old new so (omega arith) small apart' in
    let here : IsLifted w32 k (sample old (own + n)) (sample old (above + n)) (sample old (below + n)) (sample (set new (own + n) v) (own + n)) =
    λ fits. get_or-set_same new (own + n) v (pos 0) inside ∙ (e ∙ (rw (e1, e2, e3) at is) fits) in
    let at_new : (x : ℕ) → x ≡ n → IsLifted w32 k (sample old (own + x)) (sample old (above + x)) (sample old (below + x)) (sample (set new (own + n) v) (own + x)) =
    λ x q. subst (λ (y : ℕ). IsLifted w32 k (sample old (own + y)) (sample old (above + y)) (sample old (below + y)) (sample (set new (own + n) v) (own + y))) (sym q) here in
    record {
      front = λ x q. elim (cases_eq x n) [
        | inl s ↦ at_new x s
        | inr other ↦ λ fits. let far : own + x ≢ own + n = omega arith in get_or-set_other new (own + n) (own + x) v (pos 0) far ∙ so.front x (omega arith) fits
      ];
      left = λ j q. let far : j ≢ own + n = omega arith in get_or-set_other new (own + n) j v (pos 0) far ∙ so.left j q;
      right = λ j q. let far : j ≢ own + n = omega arith in get_or-set_other new (own + n) j v (pos 0) far ∙ so.right j (omega arith);
    }

-- ---- rows

sample-row_in : (c : ℕ) (plane : List ℤ) (y x : ℕ) → x < c → sample (row_in c plane y) x ≡ sample plane (y * c + x)
sample-row_in c plane y x inside = get_or-take c (drop (y * c) plane) x (pos 0) inside ∙ get_or-drop (y * c) plane x (pos 0)

length-row_in : (c : ℕ) (plane : List ℤ) (y : ℕ) → length (row_in c plane y) ≡ min c (length plane - y * c)
length-row_in c plane y = length-take c (drop (y * c) plane) ∙ ap (min c) (length-drop (y * c) plane)

same_row : (c : ℕ) (old new : List ℤ) (y : ℕ) → length new ≡ length old → ((x : ℕ) → x < c → sample new (y * c + x) ≡ sample old (y * c + x)) → row_in c new y ≡ row_in c old y
same_row c old new y size h =
    let p = length-row_in c new y in
    let q = length-row_in c old y in
    let e : length (row_in c new y) ≡ length (row_in c old y) = p ∙ (ap (λ (n : ℕ). min c (n - y * c)) size ∙ sym q) in
    ext_get_or (pos 0) (row_in c new y) (row_in c old y) e
    (λ x inside. let small : x < c = omega arith in sample-row_in c new y x small ∙ (h x small ∙ sym (sample-row_in c old y x small)))

-- two rows lie apart
pub Apart-rows : (c y i : ℕ) → (i ≡ y → ⊥) → Apart c (y * c) (i * c)
unfolding Apart
Apart-rows c y i other = elim (cases_order i y) [
  | inl e ↦ absurd (other e)
  | inr o ↦ elim o [ inl h ↦ inl (let s = mul-le-mul_right c h in omega arith) | inr h ↦ inr (let s = mul-le-mul_right c h in omega arith) ]
]

pub others-kept : (k : ℤ) (c y above below n : ℕ) (old new : List ℤ) → n ≤ c → length new ≡ length old → IsRowTo k (y * c) above below n old new
    → (i : ℕ) → i ≢ y → row_in c new i ≡ row_in c old i
others-kept k c y above below n old new small size so = λ i other.
    same_row c old new i size (λ x inside. kept k c (y * c) above below n (i * c) x old new so small inside (Apart-rows c y i other))

pub row-lifted : (k : ℤ) (c y i j n : ℕ) (old new : List ℤ) → n ≡ c → y * c + c ≤ length old → length new ≡ length old → IsRowTo k (y * c) (i * c) (j * c) n old new
    → FitsLifts w32 k (row_in c old y) (sample (row_in c old i)) (sample (row_in c old j)) → row_in c new y ≡ lifted_row k (row_in c old y) (row_in c old i) (row_in c old j)
unfolding lifted_row
row-lifted k c y i j n old new whole room size so fits =
    let p = length-row_in c new y in
    let q = length-row_in c old y in
    let own : length (row_in c old y) ≡ c = q ∙ omega arith in
    let own' : length (row_in c new y) ≡ c = p ∙ omega arith in
    fill_by_all (λ x. lifted_by k (sample (row_in c old y) x) (sample (row_in c old i) x) (sample (row_in c old j) x)) (row_in c new y) (length (row_in c old y)) (pos 0) (own' ∙ sym own)
    (λ x inside. let small : x < c = omega arith in
    sample-row_in c new y x small
    ∙ (rw (← (sample-row_in c old y x small), ← (sample-row_in c old i x small), ← (sample-row_in c old j x small)) at (so.front x (omega arith))) (fits x inside))

pub row-lifted_at : (k : ℤ) (c y i j n i' j' : ℕ) (old new : List ℤ) → i ≡ i' → j ≡ j' → n ≡ c → y * c + c ≤ length old → length new ≡ length old → IsRowTo k (y * c) (i * c) (j * c) n old new
    → FitsLifts w32 k (row_in c old y) (sample (row_in c old i')) (sample (row_in c old j')) → row_in c new y ≡ lifted_row k (row_in c old y) (row_in c old i') (row_in c old j')
row-lifted_at k c y i j n i' j' old new e f whole room size so =
    row-lifted k c y i' j' n old new whole room size
    (subst (λ (q : ℕ). IsRowTo k (y * c) (i' * c) (q * c) n old new) f (subst (λ (p : ℕ). IsRowTo k (y * c) (p * c) (j * c) n old new) e so))

-- a place in a row of a plane
pub place_inside : (c h i x n : ℕ) → i < h → x < c → n ≡ c * h → i * c + x < n
place_inside c h i x n below inside whole = let s = mul-le-mul_right c below in omega arith

pub row_inside : (c h i n : ℕ) → i < h → n ≡ c * h → i * c + c ≤ n
row_inside c h i n below whole = let s = mul-le-mul_right c below in omega arith
