-- Sums to which a sample's gain is added, one sample after another.
use Rattle.std.proofs.Common.{◌≡◌, ◌≢◌, ℕ, ◌+◌, ◌*◌, ◌^◌, ◌<◌, ◌≤◌, cond, List, [], ◌∷◌, length, set, ℤ, pos, ◌+ℤ◌, ◌*ℤ◌, unsigned_abs, to_z, of_z, SFits, w64, ap, ap₂, sym, subst, ◌∙◌, arith, eq-eqb}
use Rattle.std.proofs.Math.Logic.{⊎_elim}
use Rattle.std.proofs.lemmas.Bool.{cases_eq, ne_eqb}
use Rattle.std.proofs.lemmas.Int.{ints, to_z-of_z}
use Rattle.std.proofs.lemmas.List.{get_or-set_same, get_or-set_other}
use Rattle.std.proofs.lemmas.Nat.{mul-add-lt, same_from_place}
use Rattle.film_project.specs.Facts.{GainFacts}
use Rattle.pcm_mix.proofs.Totals.{product_within}
use Rattle.pcm_mix.specs.Mix.{gained, total}
use Rattle.pcm_mix.specs.Sums.{sum_at, AreRaised, AreWithin}

-- ---- what one gain adds

-- to its own channel
pub gained_here : (sample : ℕ → ℤ) (inputs : ℕ) (gain : GainFacts) (i to : ℕ) → to ≡ gain.to → gained sample inputs (gain ∷ []) i to ≡ sample (i * inputs + gain.from) *ℤ pos gain.gain
gained_here sample inputs gain i to same =
    let part : GainFacts → ℤ = λ g. sample (i * inputs + g.from) *ℤ pos g.gain in
    ap (λ b. total part (cond b (gain ∷ []) [])) (eq-eqb gain.to to (sym same)) ∙ omega (arith, ints)

-- to another
pub gained_elsewhere : (sample : ℕ → ℤ) (inputs : ℕ) (gain : GainFacts) (i to : ℕ) → to ≢ gain.to → gained sample inputs (gain ∷ []) i to ≡ pos 0
gained_elsewhere sample inputs gain i to other =
    let part : GainFacts → ℤ = λ g. sample (i * inputs + g.from) *ℤ pos g.gain in
    ap (λ b. total part (cond b (gain ∷ []) [])) (ne_eqb gain.to to (λ same. other (sym same)))

-- ---- a sum and a product in 64 bits

fits_sum : (sum sample : ℤ) (gain : ℕ) → unsigned_abs sum ≤ 2 ^ 62 → unsigned_abs sample ≤ 2 ^ 23 → gain ≤ 262144 → SFits w64 (sum +ℤ sample *ℤ pos gain)
fits_sum sum sample gain room small few =
    let product = product_within sample gain small few in
    omega (arith, ints, room, product)

computed : (sum read factor sample : ℤ) (gain : ℕ) → read ≡ sample → factor ≡ pos gain → unsigned_abs sum ≤ 2 ^ 62 → unsigned_abs sample ≤ 2 ^ 23 → gain ≤ 262144 →
    to_z w64 (of_z w64 sum) +ℤ to_z w64 (of_z w64 (to_z w64 (of_z w64 read) *ℤ to_z w64 (of_z w64 factor))) ≡ sum +ℤ sample *ℤ pos gain
computed sum read factor sample gain same is room small few =
    let product = product_within sample gain small few in
    let first : to_z w64 (of_z w64 sum) ≡ sum = omega (arith, ints) in
    let left : to_z w64 (of_z w64 read) ≡ sample = omega (arith, ints) in
    let right : to_z w64 (of_z w64 factor) ≡ pos gain = omega (arith, ints) in
    let both : to_z w64 (of_z w64 (to_z w64 (of_z w64 read) *ℤ to_z w64 (of_z w64 factor))) ≡ sample *ℤ pos gain =
    ap₂ (λ (a b : ℤ). to_z w64 (of_z w64 (a *ℤ b))) left right ∙ to_z-of_z w64 (sample *ℤ pos gain) (omega (arith, ints)) in
    ap₂ (λ (a b : ℤ). a +ℤ b) first both

-- the sum that the code computes fits, and is written as it is
pub fits_computed : (sum read factor sample : ℤ) (gain : ℕ) → read ≡ sample → factor ≡ pos gain → unsigned_abs sum ≤ 2 ^ 62 → unsigned_abs sample ≤ 2 ^ 23 → gain ≤ 262144 →
    SFits w64 (to_z w64 (of_z w64 sum) +ℤ to_z w64 (of_z w64 (to_z w64 (of_z w64 read) *ℤ to_z w64 (of_z w64 factor))))
fits_computed sum read factor sample gain same is room small few =
    subst (λ (z : ℤ). SFits w64 z) (sym (computed sum read factor sample gain same is room small few)) (fits_sum sum sample gain room small few)

pub written : (sum read factor sample : ℤ) (gain : ℕ) → read ≡ sample → factor ≡ pos gain → unsigned_abs sum ≤ 2 ^ 62 → unsigned_abs sample ≤ 2 ^ 23 → gain ≤ 262144 →
    to_z w64 (of_z w64 (to_z w64 (of_z w64 sum) +ℤ to_z w64 (of_z w64 (to_z w64 (of_z w64 read) *ℤ to_z w64 (of_z w64 factor))))) ≡ sum +ℤ sample *ℤ pos gain
written sum read factor sample gain same is room small few =
    ap (λ (z : ℤ). to_z w64 (of_z w64 z)) (computed sum read factor sample gain same is room small few)
    ∙ to_z-of_z w64 (sum +ℤ sample *ℤ pos gain) (fits_sum sum sample gain room small few)

-- ---- a write to the sum of sample i and channel `to`

written_there : (channels count : ℕ) (sums : List ℤ) (i to : ℕ) (v : ℤ) → i < count → to < channels → length sums ≡ count * channels →
    sum_at channels (set sums (i * channels + to) v) i to ≡ v
written_there channels count sums i to v i_below to_below whole =
    get_or-set_same sums (i * channels + to) v (pos 0) (omega (arith, mul-add-lt i channels to count i_below to_below))

kept_elsewhere : (channels : ℕ) (sums : List ℤ) (i to a b : ℕ) (v : ℤ) → to < channels → b < channels → ((a ≡ i) × (b ≡ to) → ⊥) →
    sum_at channels (set sums (i * channels + to) v) a b ≡ sum_at channels sums a b
kept_elsewhere channels sums i to a b v to_below b_below other =
    get_or-set_other sums (i * channels + to) (a * channels + b) v (pos 0) (λ same. other (same_from_place a b i to channels b_below to_below same))

-- the sums from sample i on are as they were
abbrev pub AreKept : ℕ → ℕ → ℕ → List ℤ → List ℤ → Type 0
AreKept i count channels before now = (a b : ℕ) → i ≤ a → a < count → b < channels → sum_at channels now a b ≡ sum_at channels before a b

pub kept_more : (count channels i to : ℕ) (before sums : List ℤ) (v : ℤ) → to < channels →
    AreKept i count channels before sums → AreKept (i + 1) count channels before (set sums (i * channels + to) v)
kept_more count channels i to before sums v to_below kept =
    λ a b behind a_below b_below.
    kept_elsewhere channels sums i to a b v to_below b_below (λ same. omega (arith, same.0, behind)) ∙ kept a b (omega arith) a_below b_below

pub raised_more : (part : ℕ → ℕ → ℤ) (count channels i to : ℕ) (before sums : List ℤ) (v : ℤ) → i < count → to < channels → length sums ≡ count * channels →
    AreRaised part i channels before sums → AreKept i count channels before sums →
    v ≡ sum_at channels before i to +ℤ part i to → ((b : ℕ) → b ≢ to → part i b ≡ pos 0) →
    AreRaised part (i + 1) channels before (set sums (i * channels + to) v)
raised_more part count channels i to before sums v i_below to_below whole raised kept is nothing =
    λ a b a_below b_below.
    let Goal : ℕ → ℕ → Type 0 = λ a b. sum_at channels (set sums (i * channels + to) v) a b ≡ sum_at channels before a b +ℤ part a b in
    ⊎_elim
    (λ same_row. ⊎_elim
    (λ same_channel. subst (λ a. Goal a b) (sym same_row) (subst (λ b. Goal i b) (sym same_channel) (written_there channels count sums i to v i_below to_below whole ∙ is)))
    (λ other_channel. subst (λ a. Goal a b) (sym same_row)
    (kept_elsewhere channels sums i to i b v to_below b_below (λ same. other_channel same.1)
    ∙ kept i b (omega arith) i_below b_below ∙ omega (arith, ints, nothing b other_channel)))
    (cases_eq b to))
    (λ other_row.
    kept_elsewhere channels sums i to a b v to_below b_below (λ same. other_row same.0) ∙ raised a b (omega (arith, a_below, other_row)) b_below)
    (cases_eq a i)

-- ---- sums, once all parts are added

-- the same in other words
pub raised_as : (part other : ℕ → ℕ → ℤ) (count channels number width : ℕ) (before now : List ℤ) → count ≡ number → channels ≡ width →
    ((i to : ℕ) → part i to ≡ other i to) → AreRaised part count channels before now → AreRaised other number width before now
raised_as part other count channels number width before now same_count same_width same raised =
    subst (λ m. AreRaised other m width before now) same_count
    (subst (λ n. AreRaised other count n before now) same_width
    (λ i to i_below to_below. raised i to i_below to_below ∙ ap (λ (v : ℤ). sum_at channels before i to +ℤ v) (same i to)))

pub within_more : (part : ℕ → ℕ → ℤ) (count channels most more : ℕ) (before now : List ℤ) → AreRaised part count channels before now →
    ((i to : ℕ) → unsigned_abs (part i to) ≤ more) → AreWithin most count channels before → AreWithin (most + more) count channels now
within_more part count channels most more before now raised small within =
    λ i to i_below to_below. omega (arith, ints, raised i to i_below to_below, small i to, within i to i_below to_below)
