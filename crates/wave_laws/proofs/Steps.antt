-- A lifting step over items of any type: samples of a line, or rows of an area.
use Rattle.std.proofs.Common.{◌≡◌, ℕ, zero, suc, ◌+◌, ◌*◌, ◌-◌, ◌/◌, ◌%◌, ◌<◌, ◌≤◌, min, refl, sym, ap, subst, ◌∙◌, arith, cond, eqb, List, [], ◌∷◌, length, map, get_or, All}
use Rattle.std.specs.List.{range_with_len}
use Rattle.std.proofs.lemmas.List.{length-map, ext_get_or, get_or_past}
use Rattle.std.proofs.lemmas.List.FromFn.{length-map-range_with_len, get_or-map-range_with_len}
use Rattle.std.proofs.lemmas.List.Elements.{All-from_get_or}
use Rattle.std.proofs.lemmas.Bool.{eq-eqb, ne_eqb, cond-true, cond-false, cases_lt, cases_eq}
use Rattle.std.proofs.Math.ListN.{get_or-map}
use Rattle.std.proofs.Math.Logic.{⊎_elim}
use Rattle.codec_terms.specs.Wavelet.{place_before, place_behind}
use Rattle.wave_laws.specs.Rows.{even_items, odd_items}

-- each item of one parity is made of itself and its neighbours; d stands for items that aren't there
abbrev pub stepped_item : {A : Type 0} → (A → A → A → A) → A → ℕ → List A → ℕ → A
stepped_item f d parity items i =
    cond (eqb (i % 2) parity) (f (get_or items i d) (get_or items (place_before i) d) (get_or items (place_behind (length items) i) d)) (get_or items i d)

abbrev pub stepped : {A : Type 0} → (A → A → A → A) → A → ℕ → List A → List A
stepped f d parity items = map (stepped_item f d parity items) (range_with_len 0 (length items))

pub length-stepped : {A : Type 0} (f : A → A → A → A) (d : A) (parity : ℕ) (items : List A) → length (stepped f d parity items) ≡ length items
length-stepped f d parity items = length-map-range_with_len (stepped_item f d parity items) 0 (length items)

pub get_or-stepped : {A : Type 0} (f : A → A → A → A) (d : A) (parity : ℕ) (items : List A) (i : ℕ) → i < length items → i % 2 ≡ parity
    → get_or (stepped f d parity items) i d ≡ f (get_or items i d) (get_or items (place_before i) d) (get_or items (place_behind (length items) i) d)
get_or-stepped f d parity items i inside own =
    get_or-map-range_with_len (stepped_item f d parity items) 0 (length items) i i d inside (omega arith)
    ∙ cond-true (eqb (i % 2) parity) _ _ (eq-eqb (i % 2) parity own)

get_or-kept_inside : {A : Type 0} (f : A → A → A → A) (d : A) (parity : ℕ) (items : List A) (i : ℕ) → i < length items → (i % 2 ≡ parity → ⊥)
    → get_or (stepped f d parity items) i d ≡ get_or items i d
get_or-kept_inside f d parity items i inside other =
    get_or-map-range_with_len (stepped_item f d parity items) 0 (length items) i i d inside (omega arith)
    ∙ cond-false (eqb (i % 2) parity) _ _ (ne_eqb (i % 2) parity other)

-- items of the other parity stay, and so does what isn't there
pub get_or-kept : {A : Type 0} (f : A → A → A → A) (d : A) (parity : ℕ) (items : List A) (i : ℕ) → (i % 2 ≡ parity → ⊥)
    → get_or (stepped f d parity items) i d ≡ get_or items i d
get_or-kept f d parity items i other =
    ⊎_elim (λ inside. get_or-kept_inside f d parity items i inside other) (λ past. get_or_past (stepped f d parity items) i d (rw (length-stepped f d parity items) past) ∙ sym (get_or_past items i d past)) (cases_lt i (length items))

-- ---- neighbours

pub place_before-suc : (m i : ℕ) → m ≡ suc i → place_before m ≡ i
place_before-suc m i e = rw e refl

pub place_behind-inside : (n i : ℕ) → suc i < n → place_behind n i ≡ suc i
place_behind-inside n i inside = cond-false (eqb (suc i) n) _ _ (ne_eqb (suc i) n (λ e. absurd (omega arith)))

pub place_behind-last : (n i : ℕ) → suc i ≡ n → place_behind n i ≡ n - 2
place_behind-last n i last = cond-true (eqb (suc i) n) _ _ (eq-eqb (suc i) n last)

-- ---- even and odd items

pub length-even_items : {A : Type 0} (items : List A) → length (even_items items) ≡ length items - length items / 2
unfolding even_items
length-even_items [] = refl
length-even_items (a ∷ []) = refl
length-even_items (a ∷ b ∷ items) = omega (arith, length-even_items items)

pub length-odd_items : {A : Type 0} (items : List A) → length (odd_items items) ≡ length items / 2
unfolding odd_items
length-odd_items [] = refl
length-odd_items (a ∷ []) = refl
length-odd_items (a ∷ b ∷ items) = omega (arith, length-odd_items items)

pub get_or-even_items : {A : Type 0} (items : List A) (i j : ℕ) (d : A) → j ≡ 2 * i → get_or (even_items items) i d ≡ get_or items j d
unfolding even_items
get_or-even_items [] i j d e = refl
get_or-even_items (a ∷ []) zero zero d e = refl
get_or-even_items (a ∷ []) zero (suc j) d e = absurd (omega arith)
get_or-even_items (a ∷ []) (suc i) zero d e = absurd (omega arith)
get_or-even_items (a ∷ []) (suc i) (suc j) d e = refl
get_or-even_items (a ∷ b ∷ items) zero zero d e = refl
get_or-even_items (a ∷ b ∷ items) zero (suc j) d e = absurd (omega arith)
get_or-even_items (a ∷ b ∷ items) (suc i) zero d e = absurd (omega arith)
get_or-even_items (a ∷ b ∷ items) (suc i) (suc zero) d e = absurd (omega arith)
get_or-even_items (a ∷ b ∷ items) (suc i) (suc (suc j)) d e = get_or-even_items items i j d (omega arith)

pub get_or-odd_items : {A : Type 0} (items : List A) (i j : ℕ) (d : A) → j ≡ 2 * i + 1 → get_or (odd_items items) i d ≡ get_or items j d
unfolding odd_items
get_or-odd_items [] i j d e = refl
get_or-odd_items (a ∷ []) i zero d e = absurd (omega arith)
get_or-odd_items (a ∷ []) i (suc j) d e = refl
get_or-odd_items (a ∷ b ∷ items) i zero d e = absurd (omega arith)
get_or-odd_items (a ∷ b ∷ items) zero (suc zero) d e = refl
get_or-odd_items (a ∷ b ∷ items) zero (suc (suc j)) d e = absurd (omega arith)
get_or-odd_items (a ∷ b ∷ items) (suc i) (suc zero) d e = absurd (omega arith)
get_or-odd_items (a ∷ b ∷ items) (suc i) (suc (suc j)) d e = get_or-odd_items items i j d (omega arith)

pub map-even_items : {A B : Type 0} (h : A → B) (items : List A) → map h (even_items items) ≡ even_items (map h items)
unfolding even_items
map-even_items h [] = refl
map-even_items h (a ∷ []) = refl
map-even_items h (a ∷ b ∷ items) = ap (λ (others : List _). h a ∷ others) (map-even_items h items)

pub map-odd_items : {A B : Type 0} (h : A → B) (items : List A) → map h (odd_items items) ≡ odd_items (map h items)
unfolding odd_items
map-odd_items h [] = refl
map-odd_items h (a ∷ []) = refl
map-odd_items h (a ∷ b ∷ items) = ap (λ (others : List _). h b ∷ others) (map-odd_items h items)

-- ---- a step, by even and odd items

-- the odd items, each between its even neighbours, and the even ones between their odd ones
abbrev pub odd_stepped : {A : Type 0} → (A → A → A → A) → A → List A → List A → List A
odd_stepped f d even odd =
    map (λ i. f (get_or odd i d) (get_or even i d) (get_or even (min (suc i) (length even - 1)) d)) (range_with_len 0 (length odd))

abbrev pub even_stepped : {A : Type 0} → (A → A → A → A) → A → List A → List A → List A
even_stepped f d even odd =
    map (λ i. f (get_or even i d) (get_or odd (i - 1) d) (get_or odd (min i (length odd - 1)) d)) (range_with_len 0 (length even))

pub odd_items-kept : {A : Type 0} (f : A → A → A → A) (d : A) (items : List A) → odd_items (stepped f d 0 items) ≡ odd_items items
odd_items-kept f d items =
    ext_get_or d (odd_items (stepped f d 0 items)) (odd_items items)
    (length-odd_items (stepped f d 0 items) ∙ (ap (λ (n : ℕ). n / 2) (length-stepped f d 0 items) ∙ sym (length-odd_items items)))
    (λ i inside. get_or-odd_items (stepped f d 0 items) i (2 * i + 1) d refl ∙ (get_or-kept f d 0 items (2 * i + 1) (λ e. absurd (omega arith)) ∙ sym (get_or-odd_items items i (2 * i + 1) d refl)))

pub even_items-kept : {A : Type 0} (f : A → A → A → A) (d : A) (items : List A) → even_items (stepped f d 1 items) ≡ even_items items
even_items-kept f d items =
    ext_get_or d (even_items (stepped f d 1 items)) (even_items items)
    (length-even_items (stepped f d 1 items) ∙ (ap (λ (n : ℕ). n - n / 2) (length-stepped f d 1 items) ∙ sym (length-even_items items)))
    (λ i inside. get_or-even_items (stepped f d 1 items) i (2 * i) d refl ∙ (get_or-kept f d 1 items (2 * i) (λ e. absurd (omega arith)) ∙ sym (get_or-even_items items i (2 * i) d refl)))

three : {A : Type 0} (f : A → A → A → A) (a b c a' b' c' : A) → a ≡ a' → b ≡ b' → c ≡ c' → f a b c ≡ f a' b' c'
three f a b c a' b' c' p q r = cc

-- the even item behind an odd one
even_behind : {A : Type 0} (items : List A) (i : ℕ) (d : A) → i < length items / 2
    → get_or items (place_behind (length items) (2 * i + 1)) d ≡ get_or (even_items items) (min (suc i) (length (even_items items) - 1)) d
even_behind {A} items i d inside =
    let long = length-even_items items in
    ⊎_elim
    (λ more. ap (λ (j : ℕ). get_or items j d) (place_behind-inside (length items) (2 * i + 1) more)
    ∙ sym (get_or-even_items items (min (suc i) (length (even_items items) - 1)) (suc (2 * i + 1)) d (omega arith)))
    (λ last. ap (λ (j : ℕ). get_or items j d) (place_behind-last (length items) (2 * i + 1) (omega arith))
    ∙ sym (get_or-even_items items (min (suc i) (length (even_items items) - 1)) (length items - 2) d (omega arith)))
    (cases_lt (suc (2 * i + 1)) (length items))

-- the odd items before and behind an even one
odd_before : {A : Type 0} (items : List A) (i : ℕ) (d : A) → get_or items (place_before (2 * i)) d ≡ get_or (odd_items items) (i - 1) d
odd_before items zero d = sym (get_or-odd_items items 0 1 d (omega arith))
odd_before items (suc i) d =
    ap (λ (j : ℕ). get_or items j d) (place_before-suc (2 * suc i) (2 * i + 1) (omega arith))
    ∙ sym (get_or-odd_items items (suc i - 1) (2 * i + 1) d (omega arith))

odd_behind : {A : Type 0} (items : List A) (i : ℕ) (d : A) → 2 ≤ length items → i < length items - length items / 2
    → get_or items (place_behind (length items) (2 * i)) d ≡ get_or (odd_items items) (min i (length (odd_items items) - 1)) d
odd_behind items i d two inside =
    let long = length-odd_items items in
    ⊎_elim
    (λ more. ap (λ (j : ℕ). get_or items j d) (place_behind-inside (length items) (2 * i) more)
    ∙ sym (get_or-odd_items items (min i (length (odd_items items) - 1)) (suc (2 * i)) d (omega arith)))
    (λ last. ap (λ (j : ℕ). get_or items j d) (place_behind-last (length items) (2 * i) (omega arith))
    ∙ sym (get_or-odd_items items (min i (length (odd_items items) - 1)) (length items - 2) d (omega arith)))
    (cases_lt (suc (2 * i)) (length items))

pub odd_items-stepped : {A : Type 0} (f : A → A → A → A) (d : A) (items : List A) → odd_items (stepped f d 1 items) ≡ odd_stepped f d (even_items items) (odd_items items)
odd_items-stepped f d items =
    let long = length-odd_items items in
    let whole : length (odd_items (stepped f d 1 items)) ≡ length (odd_items items) = length-odd_items (stepped f d 1 items) ∙ (ap (λ (n : ℕ). n / 2) (length-stepped f d 1 items) ∙ sym long) in
    ext_get_or d (odd_items (stepped f d 1 items)) (odd_stepped f d (even_items items) (odd_items items))
    (whole ∙ sym (length-map-range_with_len _ 0 (length (odd_items items))))
    (λ i inside.
    get_or-odd_items (stepped f d 1 items) i (2 * i + 1) d refl
    ∙ (get_or-stepped f d 1 items (2 * i + 1) (omega arith) (omega arith)
    ∙ (three f _ _ _ _ _ _ (sym (get_or-odd_items items i (2 * i + 1) d refl))
    (ap (λ (j : ℕ). get_or items j d) (place_before-suc (2 * i + 1) (2 * i) (omega arith)) ∙ sym (get_or-even_items items i (2 * i) d refl))
    (even_behind items i d (omega arith))
    ∙ sym (get_or-map-range_with_len (λ i. f (get_or (odd_items items) i d) (get_or (even_items items) i d) (get_or (even_items items) (min (suc i) (length (even_items items) - 1)) d)) 0 (length (odd_items items)) i i d (omega arith) (omega arith)))))

pub even_items-stepped : {A : Type 0} (f : A → A → A → A) (d : A) (items : List A) → 2 ≤ length items → even_items (stepped f d 0 items) ≡ even_stepped f d (even_items items) (odd_items items)
even_items-stepped f d items two =
    let long = length-even_items items in
    let whole : length (even_items (stepped f d 0 items)) ≡ length (even_items items) = length-even_items (stepped f d 0 items) ∙ (ap (λ (n : ℕ). n - n / 2) (length-stepped f d 0 items) ∙ sym long) in
    ext_get_or d (even_items (stepped f d 0 items)) (even_stepped f d (even_items items) (odd_items items))
    (whole ∙ sym (length-map-range_with_len _ 0 (length (even_items items))))
    (λ i inside.
    get_or-even_items (stepped f d 0 items) i (2 * i) d refl
    ∙ (get_or-stepped f d 0 items (2 * i) (omega arith) (omega arith)
    ∙ (three f _ _ _ _ _ _ (sym (get_or-even_items items i (2 * i) d refl)) (odd_before items i d) (odd_behind items i d two (omega arith))
    ∙ sym (get_or-map-range_with_len (λ i. f (get_or (even_items items) i d) (get_or (odd_items items) (i - 1) d) (get_or (odd_items items) (min i (length (odd_items items) - 1)) d)) 0 (length (even_items items)) i i d (omega arith) (omega arith)))))

-- ---- a map over a step

-- what f keeps of its item, a step keeps of all
pub All-stepped : {A : Type 0} (P : A → Type 0) (f : A → A → A → A) (d : A) (parity : ℕ) (items : List A) → ((a b c : A) → P a → P (f a b c)) → All P items → All P (stepped f d parity items)
All-stepped P f d parity items keeps each =
    All-from_get_or P (stepped f d parity items) d
    (λ i inside.
    let here : i < length items = omega (arith, length-stepped f d parity items) in
    ⊎_elim
    (λ own. subst P (sym (get_or-stepped f d parity items i here own)) (keeps _ _ _ (each i d here)))
    (λ other. subst P (sym (get_or-kept f d parity items i other)) (each i d here))
    (cases_eq (i % 2) parity))

-- h takes f's answer to g's, for items that are there
pub map-stepped : {A B : Type 0} (h : A → B) (f : A → A → A → A) (g : B → B → B → B) (d : A) (parity : ℕ) (items : List A)
    → ((i : ℕ) (b c : A) → i < length items → h (f (get_or items i d) b c) ≡ g (h (get_or items i d)) (h b) (h c))
    → map h (stepped f d parity items) ≡ stepped g (h d) parity (map h items)
map-stepped h f g d parity items same =
    let long = length-map items h in
    let steps = length-stepped f d parity items in
    let read : (i : ℕ) → get_or (map h items) i (h d) ≡ h (get_or items i d) = λ i. get_or-map h items i d in
    ext_get_or (h d) (map h (stepped f d parity items)) (stepped g (h d) parity (map h items))
    (length-map (stepped f d parity items) h ∙ (steps ∙ sym (length-stepped g (h d) parity (map h items) ∙ long)))
    (λ i inside.
    let here : i < length items = omega (arith, length-map (stepped f d parity items) h) in
    get_or-map h (stepped f d parity items) i d
    ∙ ⊎_elim
    (λ own. ap h (get_or-stepped f d parity items i here own)
    ∙ (same i (get_or items (place_before i) d) (get_or items (place_behind (length items) i) d) here
    ∙ sym (get_or-stepped g (h d) parity (map h items) i (rw long here) own
    ∙ three g _ _ _ _ _ _ (read i) (read (place_before i)) (ap (λ (n : ℕ). get_or (map h items) (place_behind n i) (h d)) long ∙ read (place_behind (length items) i)))))
    (λ other. ap h (get_or-kept f d parity items i other) ∙ sym (get_or-kept g (h d) parity (map h items) i other ∙ read i))
    (cases_eq (i % 2) parity))

-- ---- what holds of all items holds of the even and of the odd ones

pub All-even_items : {A : Type 0} (P : A → Type 0) (items : List A) → All P items → All P (even_items items)
All-even_items P items each = λ i d inside.
    subst P (sym (get_or-even_items items i (2 * i) d refl)) (each (2 * i) d (omega (arith, length-even_items items)))

pub All-odd_items : {A : Type 0} (P : A → Type 0) (items : List A) → All P items → All P (odd_items items)
All-odd_items P items each = λ i d inside.
    subst P (sym (get_or-odd_items items i (2 * i + 1) d refl)) (each (2 * i + 1) d (omega (arith, length-odd_items items)))
