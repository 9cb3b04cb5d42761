-- Folds, and what holds of each element of lists that are made of others.
use Rattle.std.proofs.Common.{◌≡◌, ℕ, zero, suc, ◌+◌, ◌<◌, refl, sym, ap₂, ◌∙◌, arith, List, [], ◌∷◌, ◌++◌, length, take, drop, get_or, fold, All, sum_by, subst}
use Rattle.std.specs.List.{flat_map, range_with_len}
use Rattle.std.proofs.lemmas.List.{take_at, drop_at, drop-drop, length-append, get_or_append_left, get_or-append-add}
use Rattle.std.proofs.lemmas.List.FromFn.{length-range_with_len, get_or-range_with_len}
use Rattle.std.proofs.lemmas.List.Elements.{All-nil, All-cons, All-append, All-head, All-tail}
use Rattle.std.proofs.lemmas.List.Sums.{sum_by-cons}

-- a fold keeps what each of its steps keeps
pub fold_keeps_within : {A B : Type 0} (P : B → Type 0) (Q : A → Type 0) (f : B → A → B) → ((b : B) (x : A) → Q x → P b → P (f b x)) → (b : B) (xs : List A) → All Q xs → P b → P (fold f b xs)
fold_keeps_within P Q f step b [] q h = h
fold_keeps_within P Q f step b (x ∷ xs) q h = fold_keeps_within P Q f step (f b x) xs (All-tail Q x xs q) (step b x (All-head Q x xs q) h)

pub fold_keeps : {A B : Type 0} (P : B → Type 0) (f : B → A → B) → ((b : B) (x : A) → P b → P (f b x)) → (b : B) (xs : List A) → P b → P (fold f b xs)
fold_keeps P f step b [] h = h
fold_keeps P f step b (x ∷ xs) h = fold_keeps P f step (f b x) xs (step b x h)

-- what a step brings about of its element, and other steps keep, holds of each element behind the fold
pub fold_reaches : {A B : Type 0} (P : B → Type 0) (Q : A → Type 0) (D : B → A → Type 0) (f : B → A → B)
    → ((b : B) (x : A) → Q x → P b → P (f b x)) → ((b : B) (x : A) → Q x → P b → D (f b x) x) → ((b : B) (x y : A) → Q x → P b → D b y → D (f b x) y)
    → (b : B) (xs : List A) → All Q xs → P b → All (D (fold f b xs)) xs
fold_reaches P Q D f keeps reaches stays b [] q h = All-nil (D b)
fold_reaches P Q D f keeps reaches stays b (x ∷ xs) q h =
    let first = All-head Q x xs q in
    let more = All-tail Q x xs q in
    let here = fold_keeps_within (λ c. P c × D c x) Q f (λ c y inside both. (keeps c y inside both.0, stays c y x inside both.0 both.1)) (f b x) xs more (keeps b x first h, reaches b x first h) in
    All-cons (D (fold f (f b x) xs)) x xs here.1 (fold_reaches P Q D f keeps reaches stays (f b x) xs more (keeps b x first h))

pub All-flat_map : {A B : Type 0} (P : B → Type 0) (f : A → List B) (xs : List A) → All (λ x. All P (f x)) xs → All P (flat_map f xs)
All-flat_map P f [] h = All-nil P
All-flat_map P f (x ∷ xs) h =
    All-append P (f x) (flat_map f xs) (All-head (λ x. All P (f x)) x xs h) (All-flat_map P f xs (All-tail (λ x. All P (f x)) x xs h))

pub All-each : {A : Type 0} (P : A → Type 0) → ((x : A) → P x) → (xs : List A) → All P xs
All-each P h xs = λ k d inside. h (get_or xs k d)

pub sum_by-same : {A : Type 0} (f g : A → ℕ) (xs : List A) → All (λ x. f x ≡ g x) xs → sum_by f xs ≡ sum_by g xs
sum_by-same f g [] h = refl
sum_by-same f g (x ∷ xs) h =
    sum_by-cons f x xs
    ∙ (ap₂ (λ (a b : ℕ). a + b) (All-head (λ x. f x ≡ g x) x xs h) (sum_by-same f g xs (All-tail (λ x. f x ≡ g x) x xs h)) ∙ sym (sum_by-cons g x xs))

-- piece i of pieces that are joined, where n says how long each is
pub take-drop-flat_map : {A B : Type 0} (f : A → List B) (n : A → ℕ) (xs : List A) (i : ℕ) (d : A) → All (λ x. length (f x) ≡ n x) xs → i < length xs
    → take (n (get_or xs i d)) (drop (sum_by n (take i xs)) (flat_map f xs)) ≡ f (get_or xs i d)
take-drop-flat_map f n [] i d h inside = absurd (omega arith)
take-drop-flat_map f n (x ∷ xs) zero d h inside = take_at (f x) (flat_map f xs) (n x) (All-head (λ x. length (f x) ≡ n x) x xs h)
take-drop-flat_map f n (x ∷ xs) (suc i) d h inside =
    let rest = take-drop-flat_map f n xs i d (All-tail (λ x. length (f x) ≡ n x) x xs h) (omega arith) in
    let behind : drop (n x) (f x ++ flat_map f xs) ≡ flat_map f xs = drop_at (f x) (flat_map f xs) (n x) (All-head (λ x. length (f x) ≡ n x) x xs h) in
    rw (sum_by-cons n x (take i xs), ← (drop-drop (sum_by n (take i xs)) (n x) (f x ++ flat_map f xs)), behind) rest

-- what holds of each element of joined lists holds of each element of both
pub All-append_left : {A : Type 0} (P : A → Type 0) (xs ys : List A) → All P (xs ++ ys) → All P xs
All-append_left P xs ys h = λ k d inside.
    subst P (get_or_append_left xs ys d k inside) (h k d (rw (length-append xs ys) (omega arith)))

pub All-append_right : {A : Type 0} (P : A → Type 0) (xs ys : List A) → All P (xs ++ ys) → All P ys
All-append_right P xs ys h = λ k d inside.
    subst P (get_or-append-add xs ys k d) (h (length xs + k) d (rw (length-append xs ys) (omega arith)))

pub All-pieces : {A B : Type 0} (P : B → Type 0) (f : A → List B) (xs : List A) → All P (flat_map f xs) → All (λ x. All P (f x)) xs
All-pieces P f [] h = All-nil (λ x. All P (f x))
All-pieces P f (x ∷ xs) h =
    All-cons (λ x. All P (f x)) x xs (All-append_left P (f x) (flat_map f xs) h) (All-pieces P f xs (All-append_right P (f x) (flat_map f xs) h))

-- what holds of each number of a range
pub All-range : (P : ℕ → Type 0) (n i : ℕ) → i < n → All P (range_with_len 0 n) → P i
All-range P n i inside h =
    subst P (get_or-range_with_len 0 n i 0 inside ∙ omega arith) (h i 0 (rw (length-range_with_len 0 n) inside))

pub All-from_range : (P : ℕ → Type 0) (n : ℕ) → ((i : ℕ) → i < n → P i) → All P (range_with_len 0 n)
All-from_range P n h = λ k d inside.
    let below : k < n = rw (← (length-range_with_len 0 n)) inside in
    subst P (sym (get_or-range_with_len 0 n k d below ∙ omega arith)) (h k below)
