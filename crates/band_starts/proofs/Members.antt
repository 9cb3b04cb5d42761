-- The sub-bands that are listed are those of a picture, each at its own place.
use Rattle.std.proofs.Common.{◌≡◌, ℕ, zero, suc, ◌+◌, ◌*◌, ◌<◌, ◌≤◌, refl, sym, ap, ap₂, subst, ◌∙◌, arith, Some, List, [], ◌∷◌, ◌++◌, length, take, get_or, All, sum_by}
use Rattle.std.specs.List.{slice_get}
use Rattle.std.proofs.lemmas.Option.{slice_get-get_or, slice_get_within, get_or_from_slice_get}
use Rattle.std.proofs.lemmas.List.{get_or-append-add}
use Rattle.std.proofs.lemmas.List.Elements.{All-nil, All-append, All-from_recursion}
use Rattle.std.proofs.lemmas.List.Sums.{sum_by_more, sum_by_more_le}
use Rattle.codec_terms.specs.declared.picture.Band.{Band}
use Rattle.codec_terms.specs.declared.picture.BandKind.{BandKind}
use Rattle.codec_terms.specs.declared.picture.BandKind.TheVariants.{LL, HL, LH, HH}
use Rattle.codec_terms.specs.Bands.{band_of, band_place, kind_place, all_bands, component_bands, resolution_bands}
use Rattle.codec_terms.proofs.CoefficientLaws.{AreAtPlaces, all_at_places}
use Rattle.band_starts.specs.Places.{IsPictureBand}

pub length-all_bands : length all_bands ≡ 48
unfolding all_bands component_bands resolution_bands
length-all_bands = refl

sixteen : (component : ℕ) → length (component_bands component) ≡ 16
unfolding component_bands resolution_bands
sixteen component = refl

three_components : all_bands ≡ component_bands 0 ++ (component_bands 1 ++ (component_bands 2 ++ []))
unfolding all_bands
three_components = refl

-- ---- each is one of a picture

is_picture : (component level : ℕ) (kind : BandKind) → component < 3 → 1 ≤ level → level ≤ 5 → (kind ≡ LL → level ≡ 5) → IsPictureBand (band_of component level kind)
is_picture component level kind small low high lowest = record { component = small; first = low; last = high; lowest = lowest }

HL-high : (level : ℕ) → HL ≡ LL → level ≡ 5
HL-high level e = cc

LH-high : (level : ℕ) → LH ≡ LL → level ≡ 5
LH-high level e = cc

HH-high : (level : ℕ) → HH ≡ LL → level ≡ 5
HH-high level e = cc

pictures_of : (component : ℕ) → component < 3 → All IsPictureBand (component_bands component)
unfolding component_bands resolution_bands
pictures_of component small =
    All-from_recursion IsPictureBand (component_bands component) (
      is_picture component 5 LL small (omega arith) (omega arith) (λ e. refl),
      (
        is_picture component 5 HL small (omega arith) (omega arith) (HL-high 5),
        (
          is_picture component 5 LH small (omega arith) (omega arith) (LH-high 5),
          (
            is_picture component 5 HH small (omega arith) (omega arith) (HH-high 5),
            (
              is_picture component 4 HL small (omega arith) (omega arith) (HL-high 4),
              (
                is_picture component 4 LH small (omega arith) (omega arith) (LH-high 4),
                (
                  is_picture component 4 HH small (omega arith) (omega arith) (HH-high 4),
                  (
                    is_picture component 3 HL small (omega arith) (omega arith) (HL-high 3),
                    (
                      is_picture component 3 LH small (omega arith) (omega arith) (LH-high 3),
                      (
                        is_picture component 3 HH small (omega arith) (omega arith) (HH-high 3),
                        (
                          is_picture component 2 HL small (omega arith) (omega arith) (HL-high 2),
                          (
                            is_picture component 2 LH small (omega arith) (omega arith) (LH-high 2),
                            (
                              is_picture component 2 HH small (omega arith) (omega arith) (HH-high 2),
                              (
                                is_picture component 1 HL small (omega arith) (omega arith) (HL-high 1),
                                (
                                  is_picture component 1 LH small (omega arith) (omega arith) (LH-high 1),
                                  (
                                    is_picture component 1 HH small (omega arith) (omega arith) (HH-high 1),
                                    tt,
                                  ),
                                ),
                              ),
                            ),
                          ),
                        ),
                      ),
                    ),
                  ),
                ),
              ),
            ),
          ),
        ),
      ),
    )

pub all_pictures : All IsPictureBand all_bands
unfolding all_bands
all_pictures =
    All-append IsPictureBand (component_bands 0) (component_bands 1 ++ (component_bands 2 ++ [])) (pictures_of 0 (omega arith))
    (All-append IsPictureBand (component_bands 1) (component_bands 2 ++ []) (pictures_of 1 (omega arith))
    (All-append IsPictureBand (component_bands 2) [] (pictures_of 2 (omega arith)) (All-nil IsPictureBand)))

-- ---- each of a picture is listed

of_first : (component level : ℕ) (kind : BandKind) (rest : List Band) (d : Band) → 1 ≤ level → level ≤ 5 → (kind ≡ LL → level ≡ 5)
    → get_or (component_bands component ++ rest) (kind_place level kind) d ≡ band_of component level kind
unfolding component_bands resolution_bands
of_first component level LL rest d low high lowest = ap (λ (l : ℕ). band_of component l LL) (sym (lowest refl))
of_first component zero HL rest d low high lowest = absurd (omega arith)
of_first component (suc zero) HL rest d low high lowest = refl
of_first component (suc (suc zero)) HL rest d low high lowest = refl
of_first component (suc (suc (suc zero))) HL rest d low high lowest = refl
of_first component (suc (suc (suc (suc zero)))) HL rest d low high lowest = refl
of_first component (suc (suc (suc (suc (suc zero))))) HL rest d low high lowest = refl
of_first component (suc (suc (suc (suc (suc (suc level)))))) HL rest d low high lowest = absurd (omega arith)
of_first component zero LH rest d low high lowest = absurd (omega arith)
of_first component (suc zero) LH rest d low high lowest = refl
of_first component (suc (suc zero)) LH rest d low high lowest = refl
of_first component (suc (suc (suc zero))) LH rest d low high lowest = refl
of_first component (suc (suc (suc (suc zero)))) LH rest d low high lowest = refl
of_first component (suc (suc (suc (suc (suc zero))))) LH rest d low high lowest = refl
of_first component (suc (suc (suc (suc (suc (suc level)))))) LH rest d low high lowest = absurd (omega arith)
of_first component zero HH rest d low high lowest = absurd (omega arith)
of_first component (suc zero) HH rest d low high lowest = refl
of_first component (suc (suc zero)) HH rest d low high lowest = refl
of_first component (suc (suc (suc zero))) HH rest d low high lowest = refl
of_first component (suc (suc (suc (suc zero)))) HH rest d low high lowest = refl
of_first component (suc (suc (suc (suc (suc zero))))) HH rest d low high lowest = refl
of_first component (suc (suc (suc (suc (suc (suc level)))))) HH rest d low high lowest = absurd (omega arith)

behind : (component n m : ℕ) (rest : List Band) (d : Band) → m ≡ 16 + n → get_or (component_bands component ++ rest) m d ≡ get_or rest n d
behind component n m rest d e =
    let at : m ≡ length (component_bands component) + n = omega (arith, sixteen component) in
    ap (λ (k : ℕ). get_or (component_bands component ++ rest) k d) at ∙ get_or-append-add (component_bands component) rest n d

own_place : (component level : ℕ) (kind : BandKind) (d : Band) → component < 3 → 1 ≤ level → level ≤ 5 → (kind ≡ LL → level ≡ 5)
    → get_or all_bands (16 * component + kind_place level kind) d ≡ band_of component level kind
own_place zero level kind d small low high lowest =
    let n : ℕ = kind_place level kind in
    let none : 16 * 0 + n ≡ n = omega arith in
    ap (λ (bands : List Band). get_or bands (16 * 0 + n) d) three_components
    ∙ (ap (λ (k : ℕ). get_or (component_bands 0 ++ (component_bands 1 ++ (component_bands 2 ++ []))) k d) none
    ∙ of_first 0 level kind (component_bands 1 ++ (component_bands 2 ++ [])) d low high lowest)
own_place (suc zero) level kind d small low high lowest =
    let n : ℕ = kind_place level kind in
    ap (λ (bands : List Band). get_or bands (16 * 1 + n) d) three_components
    ∙ (behind 0 n (16 * 1 + n) (component_bands 1 ++ (component_bands 2 ++ [])) d (omega arith)
    ∙ of_first 1 level kind (component_bands 2 ++ []) d low high lowest)
own_place (suc (suc zero)) level kind d small low high lowest =
    let n : ℕ = kind_place level kind in
    ap (λ (bands : List Band). get_or bands (16 * 2 + n) d) three_components
    ∙ (behind 0 (16 + n) (16 * 2 + n) (component_bands 1 ++ (component_bands 2 ++ [])) d (omega arith)
    ∙ (behind 1 n (16 + n) (component_bands 2 ++ []) d (omega arith)
    ∙ of_first 2 level kind [] d low high lowest))
own_place (suc (suc (suc component))) level kind d small low high lowest = absurd (omega arith)

kind_place-small : (level : ℕ) (kind : BandKind) → 1 ≤ level → kind_place level kind < 16
kind_place-small level LL low = omega arith
kind_place-small level HL low = omega arith
kind_place-small level LH low = omega arith
kind_place-small level HH low = omega arith

pub band_place-small : (band : Band) → IsPictureBand band → band_place band < 48
band_place-small band is = omega (arith, is.component, kind_place-small band.level band.kind is.first)

pub get_or-band_place : (band : Band) (d : Band) → IsPictureBand band → get_or all_bands (band_place band) d ≡ band
get_or-band_place band d is = own_place band.component band.level band.kind d is.component is.first is.last is.lowest

pub listed_at : (band : Band) (place : ℕ) → IsPictureBand band → band_place band ≡ place → slice_get all_bands place ≡ Some band
listed_at band place is e =
    let inside : place < length all_bands = omega (arith, length-all_bands, band_place-small band is) in
    slice_get-get_or all_bands place band inside
    ∙ ap (λ (b : Band). Some b) (ap (λ (n : ℕ). get_or all_bands n band) (sym e) ∙ get_or-band_place band band is)

-- what holds of each that is listed holds of each of a picture
pub All-all_bands : (P : Band → Type 0) (band : Band) → All P all_bands → IsPictureBand band → P band
All-all_bands P band each is =
    subst P (get_or-band_place band band is) (each (band_place band) band (omega (arith, length-all_bands, band_place-small band is)))

-- ---- a listed one stands at its own place

at_place : (n : ℕ) (bands : List Band) (k : ℕ) (d : Band) → AreAtPlaces n bands → k < length bands → band_place (get_or bands k d) ≡ n + k
unfolding AreAtPlaces
at_place n [] k d places inside = absurd (omega (arith, inside))
at_place n (band ∷ bands) zero d places inside = places.0 ∙ omega arith
at_place n (band ∷ bands) (suc k) d places inside = at_place (suc n) bands k d places.1 (omega (arith, inside)) ∙ omega arith

pub place_listed : (band : Band) (place : ℕ) → slice_get all_bands place ≡ Some band → band_place band ≡ place
place_listed band place e =
    ap band_place (sym (get_or_from_slice_get all_bands place band band e))
    ∙ (at_place 0 all_bands place band all_at_places (slice_get_within all_bands place band e) ∙ omega arith)

-- ---- sums over those before a place

pub sum_step : (f : Band → ℕ) (place n m : ℕ) (band : Band) → slice_get all_bands place ≡ Some band → n ≡ sum_by f (take place all_bands) → m ≡ f band
    → n + m ≡ sum_by f (take (place + 1) all_bands)
sum_step f place n m band e p q =
    ap₂ (λ (a b : ℕ). a + b) p (q ∙ ap f (sym (get_or_from_slice_get all_bands place band band e)))
    ∙ sym (sum_by_more f all_bands place band (slice_get_within all_bands place band e))

pub start_within_all : (f : Band → ℕ) (band : Band) → IsPictureBand band → sum_by f (take (band_place band) all_bands) + f band ≤ sum_by f all_bands
start_within_all f band is =
    subst (λ (b : Band). sum_by f (take (band_place band) all_bands) + f b ≤ sum_by f all_bands) (get_or-band_place band band is)
    (sum_by_more_le f all_bands (band_place band) band (omega (arith, length-all_bands, band_place-small band is)))

pub next_start : (f : Band → ℕ) (band next : Band) → IsPictureBand band → band_place next ≡ suc (band_place band)
    → sum_by f (take (band_place next) all_bands) ≡ sum_by f (take (band_place band) all_bands) + f band
next_start f band next is e =
    let at : band_place next ≡ band_place band + 1 = e ∙ omega arith in
    ap (λ (n : ℕ). sum_by f (take n all_bands)) at
    ∙ sym (sum_step f (band_place band) _ _ band (listed_at band (band_place band) is refl) refl refl)
