-- Samples divided by the sub-bands' steps, which are a power of two, times 1, 5 or 9.
use Rattle.std.proofs.Common.{◌≡◌, ℕ, zero, suc, ◌+◌, ◌-◌, ◌*◌, ◌/◌, ◌^◌, ◌≤◌, min, ap, sym, refl, ◌∙◌, inl, inr, get_or, arith}
use Rattle.std.proofs.Math.Nat.{div-le_of_le-mul, pow-le-pow_right}
use Rattle.std.proofs.lemmas.Nat.{pow-add, mul-le}
use Rattle.std.specs.Prelude.{ℤ, pos, unsigned_abs, All, List, map, ◌⊎◌}
use Rattle.codec_terms.specs.declared.picture.Band.{Band}
use Rattle.codec_terms.specs.declared.picture.BandKind.{BandKind}
use Rattle.codec_terms.specs.declared.picture.BandKind.TheVariants.{LL, HL, LH, HH}
use Rattle.codec_terms.specs.Bands.{exponent_at, band_of}
use Rattle.codec_terms.specs.Quantiser.{with_sign_of, quantised}
use Rattle.quantiser.specs.Quotients.{divided, lowest_quantised}
use Rattle.quantiser.proofs.Lists.{map-same}

pub shifted_within : (n j k m : ℕ) → n ≤ 2 ^ (j + m) → j ≤ k → n / 2 ^ k ≤ 2 ^ m
shifted_within n j k m small above =
    let p : 2 ^ j * 2 ^ m ≤ 2 ^ k * 2 ^ m = mul-le _ _ _ _ (pow-le-pow_right (omega arith) above) (omega arith) in
    div-le_of_le-mul (2 ^ k) (omega (arith, pow-add 2 j m))

-- ---- exponents: those of the kinds but LL are alike, from 12 to 15

exponents-LH : (level : ℕ) → exponent_at level LH ≡ exponent_at level HL
exponents-LH zero = refl
exponents-LH (suc zero) = refl
exponents-LH (suc (suc zero)) = refl
exponents-LH (suc (suc (suc zero))) = refl
exponents-LH (suc (suc (suc (suc zero)))) = refl
exponents-LH (suc (suc (suc (suc (suc n))))) = refl

exponents-HH : (level : ℕ) → exponent_at level HH ≡ exponent_at level HL
exponents-HH zero = refl
exponents-HH (suc zero) = refl
exponents-HH (suc (suc zero)) = refl
exponents-HH (suc (suc (suc zero))) = refl
exponents-HH (suc (suc (suc (suc zero)))) = refl
exponents-HH (suc (suc (suc (suc (suc n))))) = refl

pub exponent-least : (level : ℕ) → 12 ≤ exponent_at level HL
exponent-least zero = omega arith
exponent-least (suc zero) = omega arith
exponent-least (suc (suc zero)) = omega arith
exponent-least (suc (suc (suc zero))) = omega arith
exponent-least (suc (suc (suc (suc zero)))) = omega arith
exponent-least (suc (suc (suc (suc (suc n))))) = omega arith

exponent-greatest : (level : ℕ) → exponent_at level HL ≤ 15
exponent-greatest zero = omega arith
exponent-greatest (suc zero) = omega arith
exponent-greatest (suc (suc zero)) = omega arith
exponent-greatest (suc (suc (suc zero))) = omega arith
exponent-greatest (suc (suc (suc (suc zero)))) = omega arith
exponent-greatest (suc (suc (suc (suc (suc n))))) = omega arith

-- ---- a clamped sample is within the bit-planes of these kinds

nine_at : (n more : ℕ) → more ≤ 3 → n ≤ 2 ^ 26 → min (n / (2 ^ more * 2304)) (2 ^ (15 - more) - 1) ≡ n / (2 ^ (8 + more) * 9)
nine_at n zero few small = omega arith
nine_at n (suc zero) few small = omega arith
nine_at n (suc (suc zero)) few small = omega arith
nine_at n (suc (suc (suc zero))) few small = omega arith
nine_at n (suc (suc (suc (suc more)))) few small = absurd (omega arith)

five_at : (n more : ℕ) → more ≤ 3 → n ≤ 2 ^ 26 → min (n / (2 ^ (1 + more) * 2560)) (2 ^ (15 - more) - 1) ≡ n / (2 ^ (10 + more) * 5)
five_at n zero few small = omega arith
five_at n (suc zero) few small = omega arith
five_at n (suc (suc zero)) few small = omega arith
five_at n (suc (suc (suc zero))) few small = omega arith
five_at n (suc (suc (suc (suc more)))) few small = absurd (omega arith)

nines : (e more n : ℕ) → 12 ≤ e → e ≤ 15 → more ≡ 15 - e → n ≤ 2 ^ 26 → min (n / (2 ^ (15 - e) * 2304)) (2 ^ e - 1) ≡ n / (2 ^ (8 + more) * 9)
nines e more n least greatest is small =
    let a : 15 - e ≡ more = sym is in
    let b : e ≡ 15 - more = omega arith in
    ap (λ k. min (n / (2 ^ k * 2304)) (2 ^ e - 1)) a
    ∙ (ap (λ k. min (n / (2 ^ more * 2304)) (2 ^ k - 1)) b ∙ nine_at n more (omega arith) small)

fives : (e more n : ℕ) → 12 ≤ e → e ≤ 15 → more ≡ 15 - e → n ≤ 2 ^ 26 → min (n / (2 ^ (16 - e) * 2560)) (2 ^ e - 1) ≡ n / (2 ^ (10 + more) * 5)
fives e more n least greatest is small =
    let a : 16 - e ≡ 1 + more = omega arith in
    let b : e ≡ 15 - more = omega arith in
    ap (λ k. min (n / (2 ^ k * 2560)) (2 ^ e - 1)) a
    ∙ (ap (λ k. min (n / (2 ^ (1 + more) * 2560)) (2 ^ k - 1)) b ∙ five_at n more (omega arith) small)

-- ---- the quantised values of rows

nine-HL : (level more : ℕ) (v : ℤ) → more ≡ 15 - exponent_at level HL → unsigned_abs v ≤ 2 ^ 26
    → divided (2 ^ (8 + more) * 9) v ≡ quantised (band_of 0 level HL) v
nine-HL level more v is small =
    ap (with_sign_of v) (sym (nines (exponent_at level HL) more (unsigned_abs v) (exponent-least level) (exponent-greatest level) is small))

nine-LH : (level more : ℕ) (v : ℤ) → more ≡ 15 - exponent_at level HL → unsigned_abs v ≤ 2 ^ 26
    → divided (2 ^ (8 + more) * 9) v ≡ quantised (band_of 0 level LH) v
nine-LH level more v is small =
    let alike = exponents-LH level in
    ap (with_sign_of v) (sym (nines (exponent_at level LH) more (unsigned_abs v)
    (omega (arith, exponent-least level)) (omega (arith, exponent-greatest level)) (omega arith) small))

nine-kind : (kind : BandKind) (level more : ℕ) (v : ℤ) → (kind ≡ HL) ⊎ (kind ≡ LH)
    → more ≡ 15 - exponent_at level HL → unsigned_abs v ≤ 2 ^ 26
    → divided (2 ^ (8 + more) * 9) v ≡ quantised (band_of 0 level kind) v
nine-kind kind level more v (inl e) is small = nine-HL level more v is small ∙ ap (λ other. quantised (band_of 0 level other) v) (sym e)
nine-kind kind level more v (inr e) is small = nine-LH level more v is small ∙ ap (λ other. quantised (band_of 0 level other) v) (sym e)

five-HH : (level more : ℕ) (v : ℤ) → more ≡ 15 - exponent_at level HL → unsigned_abs v ≤ 2 ^ 26
    → divided (2 ^ (10 + more) * 5) v ≡ quantised (band_of 0 level HH) v
five-HH level more v is small =
    let alike = exponents-HH level in
    ap (with_sign_of v) (sym (fives (exponent_at level HH) more (unsigned_abs v)
    (omega (arith, exponent-least level)) (omega (arith, exponent-greatest level)) (omega arith) small))

pub row-nines : (band : Band) (more : ℕ) (values : List ℤ) → (band.kind ≡ HL) ⊎ (band.kind ≡ LH)
    → more ≡ 15 - exponent_at band.level HL → All (λ v. unsigned_abs v ≤ 2 ^ 26) values
    → map (divided (2 ^ (8 + more) * 9)) values ≡ map (quantised band) values
row-nines band more values kind is bounds = map-same _ _ values values (pos 0) (pos 0) refl
    (λ k inside. nine-kind band.kind band.level more (get_or values k (pos 0)) kind is (bounds k (pos 0) inside))

pub row-fives : (band : Band) (more : ℕ) (values : List ℤ) → band.kind ≡ HH
    → more ≡ 15 - exponent_at band.level HL → All (λ v. unsigned_abs v ≤ 2 ^ 26) values
    → map (divided (2 ^ (10 + more) * 5)) values ≡ map (quantised band) values
row-fives band more values kind is bounds = map-same _ _ values values (pos 0) (pos 0) refl
    (λ k inside.
    five-HH band.level more (get_or values k (pos 0)) is (bounds k (pos 0) inside)
    ∙ ap (λ other. quantised (band_of 0 band.level other) (get_or values k (pos 0))) (sym kind))

pub row-lowest : (band : Band) (values : List ℤ) → band.kind ≡ LL → map lowest_quantised values ≡ map (quantised band) values
row-lowest band values kind = ap (λ other. map (quantised (band_of 0 band.level other)) values) (sym kind)
