-- Where sub-bands begin.
use Rattle.std.proofs.Common.{◌≡◌, ℕ, zero, suc, ◌+◌, ◌*◌, ◌<◌, ◌≤◌, true, false, refl, sym, ap, ap₂, subst, ◌∙◌, arith, List, [], ◌++◌, length, take, sum_by}
use Rattle.std.proofs.Math.Seq.{take-append-add}
use Rattle.std.proofs.lemmas.List.{take-append-le}
use Rattle.std.proofs.lemmas.List.Sums.{sum_by-append}
use Rattle.std.proofs.lemmas.Nat.{mul-le}
use Rattle.codec_terms.proofs.BandLaws.{sum_by-component_bands}
use Rattle.codec_terms.specs.declared.picture.Shape.{Shape}
use Rattle.codec_terms.specs.declared.picture.Band.{Band}
use Rattle.codec_terms.specs.declared.picture.BandKind.{BandKind}
use Rattle.codec_terms.specs.declared.picture.BandKind.TheVariants.{LL, HL, LH, HH}
use Rattle.band_starts.specs.Places.{IsPictureBand}
use Rattle.codec_terms.specs.Bands.{band_side, band_of, band_length, band_start, kind_place, all_bands, component_bands, resolution_bands}

-- ---- the low and the high part of a line are the low part of the level before

split : (n l : ℕ) → 1 ≤ l → l < 5 → band_side n l false ≡ band_side n (suc l) false + band_side n (suc l) true
split n zero low high = absurd (omega arith)
split n (suc zero) low high = omega arith
split n (suc (suc zero)) low high = omega arith
split n (suc (suc (suc zero))) low high = omega arith
split n (suc (suc (suc (suc zero)))) low high = omega arith
split n (suc (suc (suc (suc (suc l))))) low high = absurd (omega arith)

both_sides : (n l : ℕ) → 1 ≤ l → l ≤ 5 → band_side n l false + band_side n l true ≤ n
both_sides n zero low high = absurd (omega arith)
both_sides n (suc zero) low high = omega arith
both_sides n (suc (suc zero)) low high = omega arith
both_sides n (suc (suc (suc zero))) low high = omega arith
both_sides n (suc (suc (suc (suc zero)))) low high = omega arith
both_sides n (suc (suc (suc (suc (suc zero))))) low high = omega arith
both_sides n (suc (suc (suc (suc (suc (suc l)))))) low high = absurd (omega arith)

four_parts : (n m low high low' high' : ℕ) → n ≡ low + high → m ≡ low' + high' → n * m ≡ low * low' + high * low' + low * high' + high * high'
four_parts n m low high low' high' p q = rw (p, q) (omega arith)

-- the samples of a level's four parts
abbrev pub length_at : Shape → ℕ → ℕ → BandKind → ℕ
length_at shape component level kind = band_length shape (band_of component level kind)

abbrev pub level_length : Shape → ℕ → ℕ → ℕ
level_length shape component level =
    length_at shape component level LL + length_at shape component level HL + length_at shape component level LH + length_at shape component level HH

pub level_within : (shape : Shape) (component level : ℕ) → 1 ≤ level → level ≤ 5 → level_length shape component level ≤ shape.width * shape.height
level_within shape component level low high =
    let wide = both_sides shape.width level low high in
    let tall = both_sides shape.height level low high in
    omega (arith, mul-le _ _ _ _ wide tall, four_parts _ _ (band_side shape.width level false) (band_side shape.width level true) (band_side shape.height level false) (band_side shape.height level true) refl refl)

next_level : (shape : Shape) (component level : ℕ) → 1 ≤ level → level < 5 → length_at shape component level LL ≡ level_length shape component (suc level)
next_level shape component level low high =
    four_parts _ _ _ _ _ _ (split shape.width level low high) (split shape.height level low high)

-- ---- within a component

abbrev before : Shape → ℕ → ℕ → BandKind → ℕ
before shape component level kind = sum_by (band_length shape) (take (kind_place level kind) (component_bands component))

abbrev with_high : Shape → ℕ → ℕ → ℕ → ℕ
with_high shape component level low = low + length_at shape component level HL + length_at shape component level LH + length_at shape component level HH

-- the levels behind this one, and LL, have as many samples as LL of this level would have
abbrev IsBefore : Shape → ℕ → ℕ → Type 0
IsBefore shape component level = before shape component level HL ≡ length_at shape component level LL

before_fifth : (shape : Shape) (component : ℕ) → IsBefore shape component 5
unfolding component_bands resolution_bands
before_fifth shape component = omega arith

before_fourth : (shape : Shape) (component : ℕ) → IsBefore shape component 4
unfolding component_bands resolution_bands
before_fourth shape component = ap (with_high shape component 5) (before_fifth shape component) ∙ sym (next_level shape component 4 (omega arith) (omega arith))

before_third : (shape : Shape) (component : ℕ) → IsBefore shape component 3
unfolding component_bands resolution_bands
before_third shape component = ap (with_high shape component 4) (before_fourth shape component) ∙ sym (next_level shape component 3 (omega arith) (omega arith))

before_second : (shape : Shape) (component : ℕ) → IsBefore shape component 2
unfolding component_bands resolution_bands
before_second shape component = ap (with_high shape component 3) (before_third shape component) ∙ sym (next_level shape component 2 (omega arith) (omega arith))

before_first : (shape : Shape) (component : ℕ) → IsBefore shape component 1
unfolding component_bands resolution_bands
before_first shape component = ap (with_high shape component 2) (before_second shape component) ∙ sym (next_level shape component 1 (omega arith) (omega arith))

pub before_HL : (shape : Shape) (component level : ℕ) → 1 ≤ level → level ≤ 5 → IsBefore shape component level
before_HL shape component zero low high = absurd (omega arith)
before_HL shape component (suc zero) low high = before_first shape component
before_HL shape component (suc (suc zero)) low high = before_second shape component
before_HL shape component (suc (suc (suc zero))) low high = before_third shape component
before_HL shape component (suc (suc (suc (suc zero)))) low high = before_fourth shape component
before_HL shape component (suc (suc (suc (suc (suc zero))))) low high = before_fifth shape component
before_HL shape component (suc (suc (suc (suc (suc (suc level)))))) low high = absurd (omega arith)

before_LH_is : (shape : Shape) (component level : ℕ) → 1 ≤ level → level ≤ 5 → before shape component level LH ≡ before shape component level HL + length_at shape component level HL
unfolding component_bands resolution_bands
before_LH_is shape component zero low high = absurd (omega arith)
before_LH_is shape component (suc zero) low high = refl
before_LH_is shape component (suc (suc zero)) low high = refl
before_LH_is shape component (suc (suc (suc zero))) low high = refl
before_LH_is shape component (suc (suc (suc (suc zero)))) low high = refl
before_LH_is shape component (suc (suc (suc (suc (suc zero))))) low high = refl
before_LH_is shape component (suc (suc (suc (suc (suc (suc level)))))) low high = absurd (omega arith)

before_HH_is : (shape : Shape) (component level : ℕ) → 1 ≤ level → level ≤ 5 → before shape component level HH ≡ before shape component level LH + length_at shape component level LH
unfolding component_bands resolution_bands
before_HH_is shape component zero low high = absurd (omega arith)
before_HH_is shape component (suc zero) low high = refl
before_HH_is shape component (suc (suc zero)) low high = refl
before_HH_is shape component (suc (suc (suc zero))) low high = refl
before_HH_is shape component (suc (suc (suc (suc zero)))) low high = refl
before_HH_is shape component (suc (suc (suc (suc (suc zero))))) low high = refl
before_HH_is shape component (suc (suc (suc (suc (suc (suc level)))))) low high = absurd (omega arith)

pub before_LH : (shape : Shape) (component level : ℕ) → 1 ≤ level → level ≤ 5 → before shape component level LH ≡ length_at shape component level LL + length_at shape component level HL
before_LH shape component level low high =
    before_LH_is shape component level low high ∙ ap (λ (n : ℕ). n + length_at shape component level HL) (before_HL shape component level low high)

pub before_HH : (shape : Shape) (component level : ℕ) → 1 ≤ level → level ≤ 5
    → before shape component level HH ≡ length_at shape component level LL + length_at shape component level HL + length_at shape component level LH
before_HH shape component level low high =
    before_HH_is shape component level low high ∙ ap (λ (n : ℕ). n + length_at shape component level LH) (before_LH shape component level low high)

-- ---- in a picture

-- the components before have all their samples before
place_small : (level : ℕ) (kind : BandKind) → 1 ≤ level → level ≤ 5 → kind_place level kind ≤ 16
place_small level LL low high = omega arith
place_small level HL low high = omega arith
place_small level LH low high = omega arith
place_small level HH low high = omega arith

sixteen : (component : ℕ) → length (component_bands component) ≡ 16
unfolding component_bands resolution_bands
sixteen component = refl

three_components : all_bands ≡ component_bands 0 ++ (component_bands 1 ++ (component_bands 2 ++ []))
unfolding all_bands
three_components = refl

abbrev samples : Shape → ℕ → List Band → ℕ
samples shape n bands = sum_by (band_length shape) (take n bands)

within_first : (shape : Shape) (component n : ℕ) (rest : List Band) → n ≤ 16
    → samples shape n (component_bands component ++ rest) ≡ samples shape n (component_bands component)
within_first shape component n rest small =
    let fits : n ≤ length (component_bands component) = omega (arith, sixteen component) in
    ap (sum_by (band_length shape)) (take-append-le n (component_bands component) rest fits)

past_first : (shape : Shape) (component n m : ℕ) (rest : List Band) → m ≡ 16 + n
    → samples shape m (component_bands component ++ rest) ≡ shape.width * shape.height + samples shape n rest
past_first shape component n m rest e =
    let at : m ≡ length (component_bands component) + n = omega (arith, sixteen component) in
    ap (λ (k : ℕ). samples shape k (component_bands component ++ rest)) at
    ∙ (ap (sum_by (band_length shape)) (take-append-add (component_bands component) rest n)
    ∙ (sum_by-append (band_length shape) (component_bands component) (take n rest)
    ∙ ap (λ (k : ℕ). k + samples shape n rest) (sum_by-component_bands shape component)))

pub start_is : (shape : Shape) (component level : ℕ) (kind : BandKind) → component < 3 → 1 ≤ level → level ≤ 5
    → band_start shape (band_of component level kind) ≡ component * (shape.width * shape.height) + before shape component level kind
start_is shape zero level kind small low high =
    let n : ℕ = kind_place level kind in
    let k : n ≤ 16 = place_small level kind low high in
    let none : 16 * 0 + n ≡ n = omega arith in
    omega (
      arith,
      ap (samples shape (16 * 0 + n)) three_components,
      ap (λ (i : ℕ). samples shape i (component_bands 0 ++ (component_bands 1 ++ (component_bands 2 ++ [])))) none,
      within_first shape 0 n (component_bands 1 ++ (component_bands 2 ++ [])) k,
    )
start_is shape (suc zero) level kind small low high =
    let n : ℕ = kind_place level kind in
    let k : n ≤ 16 = place_small level kind low high in
    omega (
      arith,
      ap (samples shape (16 * 1 + n)) three_components,
      past_first shape 0 n (16 * 1 + n) (component_bands 1 ++ (component_bands 2 ++ [])) (omega arith),
      within_first shape 1 n (component_bands 2 ++ []) k,
    )
start_is shape (suc (suc zero)) level kind small low high =
    let n : ℕ = kind_place level kind in
    let k : n ≤ 16 = place_small level kind low high in
    omega (
      arith,
      ap (samples shape (16 * 2 + n)) three_components,
      past_first shape 0 (16 + n) (16 * 2 + n) (component_bands 1 ++ (component_bands 2 ++ [])) (omega arith),
      past_first shape 1 n (16 + n) (component_bands 2 ++ []) (omega arith),
      within_first shape 2 n [] k,
    )
start_is shape (suc (suc (suc component))) level kind small low high = absurd (omega arith)

-- ---- the end

start_within : (component area start end : ℕ) → component < 3 → start + end ≤ area → component * area + start + end ≤ 3 * area
start_within component area start end small fits = omega (arith, mul-le component area 2 area (omega arith) (omega arith))

pub end_within : (shape : Shape) (component level : ℕ) (kind : BandKind) → component < 3 → 1 ≤ level → level ≤ 5
    → component * (shape.width * shape.height) + before shape component level kind + length_at shape component level kind ≤ 3 * (shape.width * shape.height)
end_within shape component level LL small low high =
    start_within component (shape.width * shape.height) 0 (length_at shape component level LL) small (omega (arith, level_within shape component level low high))
end_within shape component level HL small low high =
    start_within component (shape.width * shape.height) (before shape component level HL) (length_at shape component level HL) small
    (omega (arith, level_within shape component level low high, before_HL shape component level low high))
end_within shape component level LH small low high =
    start_within component (shape.width * shape.height) (before shape component level LH) (length_at shape component level LH) small
    (omega (arith, level_within shape component level low high, before_LH shape component level low high))
end_within shape component level HH small low high =
    start_within component (shape.width * shape.height) (before shape component level HH) (length_at shape component level HH) small
    (omega (arith, level_within shape component level low high, before_HH shape component level low high))

pub length_small : (shape : Shape) (component level : ℕ) (kind : BandKind) → 1 ≤ level → level ≤ 5 → length_at shape component level kind ≤ shape.width * shape.height
length_small shape component level LL low high = omega (arith, level_within shape component level low high)
length_small shape component level HL low high = omega (arith, level_within shape component level low high)
length_small shape component level LH low high = omega (arith, level_within shape component level low high)
length_small shape component level HH low high = omega (arith, level_within shape component level low high)

-- ---- for the code

pub product_within : (a b m n most : ℕ) → a ≡ m → b ≡ n → m * n ≤ most → a * b ≤ most
product_within a b m n most p q fits = omega (arith, ap₂ (λ (x y : ℕ). x * y) p q)

abbrev pub HasBefore : Shape → Band → ℕ → Type 0
HasBefore shape band n = n ≡ before shape band.component band.level band.kind

abbrev pub IsLengthAt : Shape → Band → BandKind → ℕ → Type 0
IsLengthAt shape band kind n = n ≡ length_at shape band.component band.level kind

of_kind : (shape : Shape) (band : Band) (kind : BandKind) (n : ℕ) → band.kind ≡ kind → n ≡ before shape band.component band.level kind → HasBefore shape band n
of_kind shape band kind n e is = is ∙ ap (before shape band.component band.level) (sym e)

pub HasBefore-HL : (shape : Shape) (band : Band) (a : ℕ) → 1 ≤ band.level → band.level ≤ 5 → band.kind ≡ HL → IsLengthAt shape band LL a → HasBefore shape band a
HasBefore-HL shape band a low high e p = of_kind shape band HL a e (p ∙ sym (before_HL shape band.component band.level low high))

pub HasBefore-LH : (shape : Shape) (band : Band) (a b : ℕ) → 1 ≤ band.level → band.level ≤ 5 → band.kind ≡ LH → IsLengthAt shape band LL a → IsLengthAt shape band HL b → HasBefore shape band (a + b)
HasBefore-LH shape band a b low high e p q =
    of_kind shape band LH (a + b) e (ap₂ (λ (x y : ℕ). x + y) p q ∙ sym (before_LH shape band.component band.level low high))

pub HasBefore-HH :
    (shape : Shape) (band : Band) (a b d : ℕ) → 1 ≤ band.level → band.level ≤ 5 → band.kind ≡ HH → IsLengthAt shape band LL a → IsLengthAt shape band HL b → IsLengthAt shape band LH d →
    HasBefore shape band (a + b + d)
HasBefore-HH shape band a b d low high e p q r =
    of_kind shape band HH (a + b + d) e (ap₂ (λ (x y : ℕ). x + y) (ap₂ (λ (x y : ℕ). x + y) p q) r ∙ sym (before_HH shape band.component band.level low high))

pub start_of :
    (shape : Shape) (band : Band) (component area n : ℕ) → IsPictureBand band → component ≡ band.component → area ≡ shape.width * shape.height → HasBefore shape band n →
    component * area + n ≡ band_start shape band
start_of shape band component area n is p q r =
    ap₂ (λ (x y : ℕ). x + y) (ap₂ (λ (x y : ℕ). x * y) p q) r ∙ sym (start_is shape band.component band.level band.kind is.component is.first is.last)

pub end_of :
    (shape : Shape) (band : Band) (component area n : ℕ) → IsPictureBand band → component ≡ band.component → area ≡ shape.width * shape.height → HasBefore shape band n →
    component * area + n + band_length shape band ≤ 3 * (shape.width * shape.height)
end_of shape band component area n is p q r =
    let fits = end_within shape band.component band.level band.kind is.component is.first is.last in
    let same : component * area + n ≡ band.component * (shape.width * shape.height) + before shape band.component band.level band.kind =
    ap₂ (λ (x y : ℕ). x + y) (ap₂ (λ (x y : ℕ). x * y) p q) r in
    subst (λ (start : ℕ). start + band_length shape band ≤ 3 * (shape.width * shape.height)) (sym same) fits
