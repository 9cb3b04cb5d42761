-- The lengths of the packets of a component's resolutions: their sum, their bounds, and which change from cut to cut.
use Rattle.std.proofs.Common.{◌≡◌, ◌≢◌, ℕ, zero, suc, ◌+◌, ◌*◌, ◌^◌, ◌<◌, ◌≤◌, refl, sym, ap, ◌∙◌, arith, List, [], ◌∷◌, length, map, sum_by, ℤ}
use Rattle.std.specs.List.{flat_map, range_with_len}
use Rattle.std.proofs.lemmas.List.Sums.{sum_by-cons, sum_by-append}
use Rattle.codec_terms.specs.declared.picture.Shape.{Shape}
use Rattle.codec_terms.specs.Precincts.{Precinct, precinct_at, precinct_columns, resolution_precincts}
use Rattle.codec_terms.specs.Codestream.{precinct_packet, part_length}
use Rattle.codec_terms.proofs.OrderLaws.{sum_by-packet_order}
use Rattle.codec_laws.specs.Bounds.{IsPictureSize, FitBands}
use Rattle.codec_laws.proofs.Lists.{All-each, sum_by-same}
use Rattle.band_laws.specs.Places.{precinct_count}
use Rattle.cut_laws.proofs.Changes.{packet-same}
use Rattle.cut_laws.proofs.Lengths.{packets-sum, part-bound}
use Rattle.block_packets.specs.Changes.{place_changed}
use Rattle.block_packets.proofs.ChangedPlace.{changes-not}
use Rattle.cinema_stream.specs.Lengths.{packet_of, resolution_length}

-- ---- sums over lists that are made of others

sum_by-each : {A : Type 0} (f g : A → ℕ) → ((x : A) → f x ≡ g x) → (xs : List A) → sum_by f xs ≡ sum_by g xs
sum_by-each f g same xs = sum_by-same f g xs (All-each (λ x. f x ≡ g x) same xs)

sum_by-map : {A B : Type 0} (g : B → ℕ) (f : A → B) (xs : List A) → sum_by g (map f xs) ≡ sum_by (λ x. g (f x)) xs
sum_by-map g f [] = refl
sum_by-map g f (x ∷ xs) = sum_by-cons g (f x) (map f xs) ∙ ap (λ (n : ℕ). g (f x) + n) (sum_by-map g f xs) ∙ sym (sum_by-cons (λ x. g (f x)) x xs)

sum_by-flat_map : {A B : Type 0} (g : B → ℕ) (f : A → List B) (xs : List A) → sum_by g (flat_map f xs) ≡ sum_by (λ x. sum_by g (f x)) xs
sum_by-flat_map g f [] = refl
sum_by-flat_map g f (x ∷ xs) =
    sum_by-append g (f x) (flat_map f xs) ∙ ap (λ (n : ℕ). sum_by g (f x) + n) (sum_by-flat_map g f xs) ∙ sym (sum_by-cons (λ x. sum_by g (f x)) x xs)

-- ---- a tile-part has those of six resolutions

pub part-by_resolution : (shape : Shape) (q : List ℤ) (cut component : ℕ)
    → part_length shape q cut component ≡ 14 + sum_by (resolution_length shape q cut component) (range_with_len 0 6)
unfolding resolution_length
part-by_resolution shape q cut component =
    let f : Precinct → ℕ = λ p. length (precinct_packet shape q cut component p) in
    ap (λ (n : ℕ). 14 + n)
    (packets-sum shape q cut component ∙ sum_by-packet_order f shape ∙ sum_by-flat_map f (resolution_precincts shape) (range_with_len 0 6)
    ∙ sum_by-each (λ r. sum_by f (resolution_precincts shape r)) (resolution_length shape q cut component)
    (λ r. sum_by-map f (precinct_at r (precinct_columns shape r)) (range_with_len 0 (precinct_count shape r))) (range_with_len 0 6))

pub six-terms : (f : ℕ → ℕ) → sum_by f (range_with_len 0 6) ≡ f 0 + f 1 + f 2 + f 3 + f 4 + f 5
six-terms f = omega arith

one-of_six : (f : ℕ → ℕ) (r : ℕ) → r < 6 → f r ≤ sum_by f (range_with_len 0 6)
one-of_six f zero small = omega arith
one-of_six f (suc zero) small = omega arith
one-of_six f (suc (suc zero)) small = omega arith
one-of_six f (suc (suc (suc zero))) small = omega arith
one-of_six f (suc (suc (suc (suc zero)))) small = omega arith
one-of_six f (suc (suc (suc (suc (suc zero))))) small = omega arith
one-of_six f (suc (suc (suc (suc (suc (suc r)))))) small = absurd (omega arith)

pub resolution-bound : (shape : Shape) (q : List ℤ) (cut component r : ℕ) → IsPictureSize shape → FitBands shape q → component < 3 → r < 6
    → resolution_length shape q cut component r < 2 ^ 30
resolution-bound shape q cut component r size fits inside small =
    let all = part-by_resolution shape q cut component in
    let one = one-of_six (resolution_length shape q cut component) r small in
    let bound = part-bound shape q cut component size fits inside in
    omega arith

-- ---- the first n of a resolution's packets

pub first_length : Shape → List ℤ → ℕ → ℕ → ℕ → ℕ → ℕ
first_length shape q cut component r n = sum_by (λ number. length (packet_of shape q cut component r number)) (range_with_len 0 n)

pub first-none : (shape : Shape) (q : List ℤ) (cut component r : ℕ) → first_length shape q cut component r 0 ≡ 0
unfolding first_length
first-none shape q cut component r = refl

range-more : (f : ℕ → ℕ) (a n : ℕ) → sum_by f (range_with_len a (suc n)) ≡ sum_by f (range_with_len a n) + f (a + n)
range-more f a zero = let e : a + 0 ≡ a = omega arith in rw e (omega arith)
range-more f a (suc n) =
    let more = range-more f (a + 1) n in
    let place : a + 1 + n ≡ a + suc n = omega arith in
    let last : f (a + 1 + n) ≡ f (a + suc n) = ap f place in
    omega (arith, sum_by-cons f a (range_with_len (a + 1) (suc n)), sum_by-cons f a (range_with_len (a + 1) n), more, last)

pub first-more : (shape : Shape) (q : List ℤ) (cut component r n : ℕ)
    → first_length shape q cut component r (n + 1) ≡ first_length shape q cut component r n + length (packet_of shape q cut component r n)
unfolding first_length
first-more shape q cut component r n =
    let next : n + 1 ≡ suc n = omega arith in
    ap (λ (m : ℕ). sum_by (λ number. length (packet_of shape q cut component r number)) (range_with_len 0 m)) next
    ∙ range-more (λ number. length (packet_of shape q cut component r number)) 0 n
    ∙ ap (λ (m : ℕ). sum_by (λ number. length (packet_of shape q cut component r number)) (range_with_len 0 n) + length (packet_of shape q cut component r m)) (omega arith)

pub first-all : (shape : Shape) (q : List ℤ) (cut component r : ℕ) → first_length shape q cut component r (precinct_count shape r) ≡ resolution_length shape q cut component r
unfolding first_length resolution_length
first-all shape q cut component r = refl

range-within : (f : ℕ → ℕ) (a n m : ℕ) → n ≤ m → sum_by f (range_with_len a n) ≤ sum_by f (range_with_len a m)
range-within f a zero m few = omega arith
range-within f a (suc n) zero few = absurd (omega arith)
range-within f a (suc n) (suc m) few =
    let rest = range-within f (a + 1) n m (omega arith) in
    omega (arith, sum_by-cons f a (range_with_len (a + 1) n), sum_by-cons f a (range_with_len (a + 1) m), rest)

pub first-within : (shape : Shape) (q : List ℤ) (cut component r n : ℕ) → n ≤ precinct_count shape r
    → first_length shape q cut component r n ≤ resolution_length shape q cut component r
unfolding first_length resolution_length
first-within shape q cut component r n few = range-within (λ number. length (packet_of shape q cut component r number)) 0 n (precinct_count shape r) few

-- ---- from a cut to the next one

pub resolution-same : (shape : Shape) (q : List ℤ) (cut component r : ℕ) → component < 3 → r < 6 → 6 * component + r ≢ place_changed cut
    → resolution_length shape q (suc cut) component r ≡ resolution_length shape q cut component r
unfolding resolution_length
resolution-same shape q cut component r inside small other =
    sum_by-each (λ number. length (packet_of shape q (suc cut) component r number)) (λ number. length (packet_of shape q cut component r number))
    (λ number. let p : Precinct = record { resolution = r; number = number; x = 0; y = 0 } in
    ap length (packet-same shape q cut component p inside small (changes-not cut component r other)))
    (range_with_len 0 (precinct_count shape r))
