-- A frame's sums, row by row, and their bytes.
use Rattle.std.proofs.Common.{◌≡◌, ℕ, zero, suc, ◌+◌, ◌*◌, ◌≤◌, List, [], ◌∷◌, ◌++◌, length, take, drop, map, replicate, ℤ, pos, refl, ap, ap₂, sym, ◌∙◌, arith, add-one}
use Rattle.std.proofs.Math.Seq.{take-add}
use Rattle.std.proofs.Math.Logic.{⊎_elim}
use Rattle.std.proofs.lemmas.Bool.{cases_lt}
use Rattle.std.proofs.lemmas.List.{append-nil, map-id, length-drop, length-take, get_or-take, get_or-drop, get_or_past, get_or-replicate, length-replicate, take_all}
use Rattle.std.proofs.lemmas.Nat.{mul-le}
use Rattle.std.proofs.lemmas.List.Concat.{flat_map-append}
use Rattle.std.proofs.lemmas.List.Folds.{flat_map-map}
use Rattle.std.proofs.lemmas.List.FromFn.{fill_by_all, map-range_with_len_more}
use Rattle.std.specs.List.{flat_map, range_with_len}
use Rattle.pcm_mix.specs.Sums.{value_at, AreSums}

-- one number more
range_more : (n : ℕ) → range_with_len 0 (n + 1) ≡ range_with_len 0 n ++ n ∷ []
range_more n =
    sym (map-id (range_with_len 0 (n + 1)))
    ∙ map-range_with_len_more (λ i. i) 0 n n (omega arith)
    ∙ ap (λ l. l ++ n ∷ []) (map-id (range_with_len 0 n))

-- the first n samples of sums that are known
rows : (value : ℕ → ℕ → ℤ) (channels : ℕ) (sums : List ℤ) (count n : ℕ) → n ≤ count → length sums ≡ count * channels → AreSums value count channels sums →
    take (n * channels) sums ≡ flat_map (λ i. map (value i) (range_with_len 0 channels)) (range_with_len 0 n)
rows value channels sums count zero within whole each = ap (λ k. take k sums) (let none : 0 * channels ≡ 0 = omega arith in none)
rows value channels sums count (suc n) within whole each =
    let row : ℕ → List ℤ = λ i. map (value i) (range_with_len 0 channels) in
    let next : suc n * channels ≡ n * channels + channels = omega arith in
    let room : suc n * channels ≤ count * channels = mul-le (suc n) channels count channels within (omega arith) in
    let width : length (take channels (drop (n * channels) sums)) ≡ channels =
    omega (arith, next, room, whole, length-take channels (drop (n * channels) sums), length-drop (n * channels) sums) in
    let here : take channels (drop (n * channels) sums) ≡ row n =
    fill_by_all (value n) (take channels (drop (n * channels) sums)) channels (pos 0) width
    (λ k below. get_or-take channels (drop (n * channels) sums) k (pos 0) below ∙ get_or-drop (n * channels) sums k (pos 0) ∙ each n k (omega (arith, within)) below) in
    let all : flat_map row (range_with_len 0 (suc n)) ≡ flat_map row (range_with_len 0 n) ++ row n =
    ap (λ m. flat_map row (range_with_len 0 m)) (sym (add-one n)) ∙ ap (flat_map row) (range_more n) ∙ flat_map-append row (range_with_len 0 n) (n ∷ [])
    ∙ ap (λ l. flat_map row (range_with_len 0 n) ++ l) (append-nil (row n)) in
    ap (λ k. take k sums) next ∙ take-add (n * channels) channels sums
    ∙ ap₂ (λ a b. a ++ b) (rows value channels sums count n (omega (arith, within)) whole each) here ∙ sym all

-- the bytes of rows
nested : (bytes : ℤ → List ℕ) (value : ℕ → ℕ → ℤ) (inner outer : List ℕ) →
    flat_map bytes (flat_map (λ i. map (value i) inner) outer) ≡ flat_map (λ i. flat_map (λ to. bytes (value i to)) inner) outer
nested bytes value inner [] = refl
nested bytes value inner (i ∷ outer) =
    flat_map-append bytes (map (value i) inner) (flat_map (λ i. map (value i) inner) outer)
    ∙ ap₂ (λ a b. a ++ b) (flat_map-map bytes (value i) inner) (nested bytes value inner outer)

-- the bytes of sums that are known
pub bytes_of_sums : (bytes : ℤ → List ℕ) (value : ℕ → ℕ → ℤ) (channels count : ℕ) (sums : List ℤ) → length sums ≡ count * channels → AreSums value count channels sums →
    flat_map bytes sums ≡ flat_map (λ i. flat_map (λ to. bytes (value i to)) (range_with_len 0 channels)) (range_with_len 0 count)
bytes_of_sums bytes value channels count sums whole each =
    ap (flat_map bytes) (sym (take_all (count * channels) sums (omega arith)) ∙ rows value channels sums count count (omega arith) whole each)
    ∙ nested bytes value (range_with_len 0 channels) (range_with_len 0 count)

-- sums before the first clip
pub no_sums : (sums : List ℤ) (n k : ℕ) → sums ≡ replicate n (pos 0) → value_at sums k ≡ pos 0
no_sums sums n k are =
    ap (λ l. value_at l k) are
    ∙ ⊎_elim (λ inside. get_or-replicate n k (pos 0) (pos 0) inside)
    (λ past. get_or_past (replicate n (pos 0)) k (pos 0) (omega (arith, past, length-replicate n (pos 0)))) (cases_lt k n)
