-- A block's passes in turn, and the values that they give.
use Rattle.std.proofs.Common.{◌≡◌, ℕ, zero, suc, ◌+◌, ◌*◌, ◌-◌, ◌%◌, ◌<◌, ◌≤◌, ◌^◌, max, refl, sym, ap, ap₂, subst, ◌∙◌, arith, Bool, true, false, cond, List, [], ◌∷◌, length, map, take, get_or, replicate, zip, ℤ, pos, negsuc, unsigned_abs, All, fold, inl, inr, append-nil, mod-eq_of_lt}
use Rattle.std.specs.Prelude.{nat_le}
use Rattle.std.specs.Int.{is_negative}
use Rattle.std.proofs.lemmas.Bool.{cases_Bool, cases_lt, lt-leb, leb-false, le-ltb, false≢true}
use Rattle.std.proofs.lemmas.List.{ext_get_or, length-map, length-replicate, get_or-replicate, get_or-map}
use Rattle.std.proofs.lemmas.List.Elements.{All-nil, All-cons, All-map}
use Rattle.codec_terms.specs.Mq.{Decision, codeword, contexts_of, bits_of, decoded}
use Rattle.codec_terms.specs.Passes.{further_passes, passes_down_to, pass_count}
use Rattle.codec_terms.specs.Quantiser.{kept, with_sign_of}
use Rattle.codec_terms.specs.BlockDecisions.{Block, Walk, no_samples, pass_told, next_told, nothing_told, passes_told, plane_count, decisions}
use Rattle.codec_terms.specs.BlockReading.{Known, none_of, pass_read, next_read, nothing_known, passes_read, signed, known_values, block_read}
use Rattle.codec_terms.proofs.PassLaws.{take-passes_down_to}
use Rattle.codec_laws.proofs.Planes.{greatest-below, within-bit_length}
use Rattle.block_read_laws.proofs.Decoding.{IsFront}
use Rattle.block_read_laws.proofs.Moves.{Moves, followed}
use Rattle.block_read_laws.proofs.Numbers.{without_low}
use Rattle.block_read_laws.proofs.Related.{area_of, magnitude, Coded}
use Rattle.block_read_laws.proofs.CleanupRead.{own}
use Rattle.block_read_laws.proofs.PlaneRead.{from_plane, LeavesExact, Between, exact_at, first-moves, further-moves}

-- ---- no value has a bit from the number of planes on

le-greatest : (a : ℕ) (xs : List ℕ) → (a ≤ fold max a xs) × All (λ n. n ≤ fold max a xs) xs
le-greatest a [] = (omega arith, All-nil (λ n. n ≤ a))
le-greatest a (x ∷ xs) =
    let rest = le-greatest (max a x) xs in
    let most : max a x ≤ fold max (max a x) xs = rest.0 in
    (omega arith, All-cons (λ n. n ≤ fold max (max a x) xs) x xs (omega arith) rest.1)

values_below : (b : Block) (q : ℕ) → All (λ v. unsigned_abs v < 2 ^ 64) b.values → plane_count b ≤ q → (i : ℕ)
    → i < length b.values → magnitude b i < 2 ^ q
values_below b q small few i inside =
    let sizes : List ℕ = map unsigned_abs b.values in
    let greatest : fold max 0 sizes < 2 ^ q =
    within-bit_length (fold max 0 sizes) q
    (greatest-below (2 ^ 64) 0 sizes (omega arith) (All-map (λ n. n < 2 ^ 64) unsigned_abs b.values small)) few in
    let one : get_or sizes i 0 ≤ fold max 0 sizes =
    (le-greatest 0 sizes).1 i 0 (rw (length-map b.values unsigned_abs) inside) in
    let is : get_or sizes i 0 ≡ magnitude b i = get_or-map unsigned_abs b.values i (pos 0) 0 inside in
    omega (arith, greatest, one, is)

module _ (b : Block) (ds : List Decision) (c : Coded b ds) (leaves : LeavesExact b)
    (small : All (λ v. unsigned_abs v < 2 ^ 64) b.values) where
  -- ---- the passes

  further-passes : (p n : ℕ) (w : Walk) (k : Known)
      → Moves ds (Between b ds (p + n)) (Between b ds p) w (fold (next_told b) w (further_passes p n)) k
      (fold (next_read (area_of b)) k (further_passes p n))
  unfolding further_passes pass_told pass_read
  further-passes p zero w k =
      let same : p + 0 ≡ p = omega arith in
      record { back = λ f. f; on = λ f s. subst (λ q. Between b ds q w k) same s }
  further-passes p (suc n) w k =
      let same : p + suc n ≡ suc (p + n) = omega arith in
      let plane = further-moves b ds c leaves (p + n) w k in
      let all = followed plane (further-passes p n _ _) in
      record { back = all.back; on = λ f s. all.on f (subst (λ q. Between b ds q w k) same s) }

  passes-moves : (p n : ℕ) (w : Walk) (k : Known) → plane_count b ≤ p + n
      → Moves ds (Between b ds (p + n)) (Between b ds p) w (fold (next_told b) w (passes_down_to p n)) k
      (fold (next_read (area_of b)) k (passes_down_to p n))
  unfolding passes_down_to pass_told pass_read
  passes-moves p zero w k few =
      let same : p + 0 ≡ p = omega arith in
      record { back = λ f. f; on = λ f s. subst (λ q. Between b ds q w k) same s }
  passes-moves p (suc n) w k few =
      let same : p + suc n ≡ suc (p + n) = omega arith in
      let plane = first-moves b ds c leaves (p + n) w k (values_below b (suc (p + n)) small (omega arith)) in
      let all = followed plane (further-passes p n _ _) in
      record { back = all.back; on = λ f s. all.on f (subst (λ q. Between b ds q w k) same s) }

  -- ---- before the first pass

  none-same : none_of (area_of b) ≡ no_samples b
  none-same = ap (λ n. replicate n false) (sym c.whole)

  none-exact : (q : ℕ) → plane_count b ≤ q → no_samples b ≡ from_plane b q
  none-exact q few =
      ext_get_or false (no_samples b) (from_plane b q)
      (length-replicate (length b.values) false ∙ sym (length-map b.values (λ v. nat_le (2 ^ q) (unsigned_abs v))))
      (λ i within.
      let inside : i < length b.values = rw (← (length-replicate (length b.values) false)) within in
      get_or-replicate (length b.values) i false false inside
      ∙ sym (exact_at b q i (from_plane b q) refl inside
      ∙ lt-leb (2 ^ q) (magnitude b i) (values_below b q small few i inside)))

  nothing-between : (q : ℕ) → plane_count b ≤ q
      → Between b ds q (nothing_told b) (nothing_known (area_of b) (codeword ds))
  nothing-between q few = record {
    related = record {
      decoder = refl;
      significant = none-same;
      visited = none-same;
      size = length-replicate (length b.values) false;
      visited_size = length-replicate (length b.values) false;
      magnitudes_size = length-replicate (b.width * b.height) 0 ∙ sym c.whole;
      negative_size = length-replicate (b.width * b.height) false ∙ sym c.whole;
      signs = λ i inside e. absurd (false≢true (sym (get_or-replicate (length b.values) i false false inside) ∙ e));
      magnitudes = λ i inside. get_or-replicate (b.width * b.height) i 0 0 (rw (← c.whole) inside)
          ∙ sym (ap (λ t. cond t (own b q i) 0) (get_or-replicate (length b.values) i false false inside));
      above = λ i inside from. absurd (omega (arith, from, values_below b q small few i inside));
    };
    exact = none-exact q few;
    none = refl;
  }

-- ---- the values

signed-kept : (p : ℕ) (v : ℤ) → signed (is_negative v, without_low p (unsigned_abs v)) ≡ kept p v
signed-kept p (pos m) =
    let not_negative : is_negative (pos m) ≡ false = le-ltb m 0 (omega arith) in
    ap (λ t. signed (t, without_low p m)) not_negative
signed-kept p (negsuc m) = refl

signed-zero : (negative : Bool) → signed (negative, 0) ≡ pos 0
signed-zero true = refl
signed-zero false = refl

kept-zero : (p : ℕ) (v : ℤ) → unsigned_abs v < 2 ^ p → kept p v ≡ pos 0
kept-zero p v below = ap (with_sign_of v) (none (mod-eq_of_lt below)) ∙ zero-sign v
  where
    none : unsigned_abs v % 2 ^ p ≡ unsigned_abs v → unsigned_abs v - unsigned_abs v % 2 ^ p ≡ 0
    none e = omega arith

    zero-sign : (v : ℤ) → with_sign_of v 0 ≡ pos 0
    zero-sign (pos m) = refl
    zero-sign (negsuc m) = refl

each-signed : (f : ℤ → ℤ) (negative : List Bool) (magnitudes : List ℕ) (values : List ℤ)
    → length negative ≡ length values → length magnitudes ≡ length values
    → ((i : ℕ) → i < length values
    → signed (get_or negative i false, get_or magnitudes i 0) ≡ f (get_or values i (pos 0)))
    → map signed (zip negative magnitudes) ≡ map f values
each-signed f [] ms [] e h each = refl
each-signed f [] ms (v ∷ vs) e h each = absurd (omega arith)
each-signed f (n ∷ ns) ms [] e h each = absurd (omega arith)
each-signed f (n ∷ ns) [] (v ∷ vs) e h each = absurd (omega arith)
each-signed f (n ∷ ns) (m ∷ ms) (v ∷ vs) e h each =
    ap₂ (λ (x : ℤ) (xs : List ℤ). x ∷ xs) (each 0 (omega arith))
    (each-signed f ns ms vs (omega arith) (omega arith) (λ i inside. each (suc i) (omega arith)))

values-kept : (b : Block) (ds : List Decision) (p : ℕ) (w : Walk) (k : Known) → Between b ds p w k
    → known_values k ≡ map (kept p) b.values
values-kept b ds p w k s =
    each-signed (kept p) k.negative k.magnitudes b.values s.related.negative_size s.related.magnitudes_size
    (λ i inside. elim (cases_Bool (get_or w.significant i false)) [
      | inl significant ↦ ap₂ (λ (t : Bool) (m : ℕ). signed (t, m)) (s.related.signs i inside significant)
          (s.related.magnitudes i inside ∙ ap (λ t. cond t (own b p i) 0) significant)
          ∙ signed-kept p (get_or b.values i (pos 0))
      | inr other ↦
          ap (λ m. signed (get_or k.negative i false, m))
          (s.related.magnitudes i inside ∙ ap (λ t. cond t (own b p i) 0) other)
          ∙ signed-zero (get_or k.negative i false)
          ∙ sym (kept-zero p (get_or b.values i (pos 0))
          (leb-false (2 ^ p) (magnitude b i) (sym (exact_at b p i w.significant s.exact inside) ∙ other)))
    ])

-- ---- the whole

no-passes : (p m : ℕ) → take (pass_count 0) (passes_down_to 0 m) ≡ passes_down_to p 0
unfolding passes_down_to
no-passes p m = refl

passes-taken : (p m : ℕ) → take (pass_count (m - p)) (passes_down_to 0 m) ≡ passes_down_to p (m - p)
passes-taken p m = elim (cases_lt m p) [
  | inl above ↦ (let none : m - p ≡ 0 = omega arith in rw none (no-passes p m))
  | inr within ↦ take-passes_down_to p (m - p) m (pass_count (m - p)) (omega arith) refl
]

pub block-kept : (b : Block) (p : ℕ) → length b.values ≡ b.width * b.height
    → All (λ v. unsigned_abs v < 2 ^ 64) b.values → LeavesExact b
    → ((ds : List Decision) → decoded (codeword ds) (contexts_of ds) ≡ bits_of ds)
    → block_read (area_of b) (plane_count b) (pass_count (plane_count b - p)) (codeword (decisions b p))
    ≡ map (kept p) b.values
unfolding block_read passes_read decisions passes_told
block-kept b p whole small leaves reads =
    let n : ℕ = plane_count b - p in
    let ds : List Decision = decisions b p in
    let c : Coded b ds = record { whole = whole; reads = reads ds } in
    let few : plane_count b ≤ p + n = omega arith in
    let moves = passes-moves b ds c leaves small p n (nothing_told b) (nothing_known (area_of b) (codeword ds)) few in
    let last : IsFront (passes_told b (passes_down_to p n)).decisions ds =
    record { rest = []; same = sym (append-nil ds) } in
    ap (λ passes. known_values (fold (next_read (area_of b)) (nothing_known (area_of b) (codeword ds)) passes))
    (passes-taken p (plane_count b))
    ∙ values-kept b ds p (passes_told b (passes_down_to p n))
    (fold (next_read (area_of b)) (nothing_known (area_of b) (codeword ds)) (passes_down_to p n))
    (moves.on last (nothing-between b ds c leaves small (p + n) few))
