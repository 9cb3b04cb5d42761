-- The canonical JSON of clips has no fault, and reads back.
use Rattle.std.proofs.Common.{◌≡◌, ◌≢◌, ℕ, suc, ◌+◌, ◌-◌, ◌<◌, ◌≤◌, List, [], ◌∷◌, map, length, All, Bool, true, false, nat_lt, nat_le, Option, Some, None, refl, ap, ◌∙◌, arith, codes}
use Rattle.std.specs.List.{AllPairs}
use Rattle.std.specs.Option.{option_or}
use Rattle.std.proofs.lemmas.Bool.{le-leb}
use Rattle.std.proofs.lemmas.Bool.Decides.{nat_tests}
use Rattle.serde_json.specs.View.{items_of}
use Rattle.film_project.specs.Accepts.{picture_in, picture_fault, sound_in, sound_fault, input_channels, found_fault}
use Rattle.film_project.specs.Canonical.{picture_data, gain_data, sound_data, id_at}
use Rattle.film_project.specs.Facts.{AssetFacts, PictureFacts, GainFacts, SoundFacts, nth_asset}
use Rattle.film_project.specs.Rules.{FitsPicture, FitsGain, FitsSound}
use Rattle.film_project.specs.Members.{list_of, first_of, gain_of, gain_kind_fault, gain_range_fault, gains_fault, range_fault}
use Rattle.film_project.specs.Names.{member_name}
use Rattle.film_project.specs.Objects.{carries_sound}
use Rattle.film_project.specs.Texts.{keeps, offends}
use Rattle.film_project.specs.declared.asset.AssetKind.{AssetKind}
use Rattle.film_project.specs.declared.asset.AssetKind.TheVariants.{Rgb48, Ppm, J2c, Pcm24}
use Rattle.film_project.specs.declared.place.Place.TheVariants as place
use Rattle.film_project.specs.declared.refusal.ProjectRefusal.{ProjectRefusal}
use Rattle.film_project.specs.declared.text_rule.TextRule.TheVariants as rule
use Rattle.film_printer.proofs.Back.{list_of-items_of, text_ok, number_ok, two_none, find_at}
use Rattle.std.proofs.lemmas.List.{length-map}
use Rattle.film_project.proofs.Kept.{none-first_place}

five_none : (f g h k l : Option ProjectRefusal) → f ≡ None → g ≡ None → h ≡ None → k ≡ None → l ≡ None
    → option_or f (option_or g (option_or h (option_or k (option_or l None)))) ≡ None
five_none f g h k l a b c d e = rw (a, b, c, d, e)

no_less : (n : ℕ) → nat_lt n 0 ≡ false
no_less n = grind (arith, nat_tests)

-- any text keeps the rule that is none
any_kept : (s : List ℕ) → keeps rule.AnyText s ≡ true
any_kept s = rw (none-first_place (offends rule.AnyText s) 0 (length s) (λ k h. refl), no_less (length s)) refl

found_picture : (name : List ℕ) (o : Option (ℕ × AssetFacts)) (i : ℕ) (a : AssetFacts) → o ≡ Some (i, a) → carries_sound a.kind ≡ false → found_fault name false o ≡ None
found_picture name o i a e k = rw (e, k)

found_sound : (name : List ℕ) (o : Option (ℕ × AssetFacts)) (i : ℕ) (a : AssetFacts) → o ≡ Some (i, a) → carries_sound a.kind ≡ true → found_fault name true o ≡ None
found_sound name o i a e k = rw (e, k)

silent : (kind : AssetKind) → kind ≢ Pcm24 → carries_sound kind ≡ false
silent Rgb48 other = refl
silent Ppm other = refl
silent J2c other = refl
silent Pcm24 other = absurd (other refl)

sounding : (kind : AssetKind) → kind ≡ Pcm24 → carries_sound kind ≡ true
sounding kind e = rw e

-- ---- picture clips

picture_ok : (frames : ℕ) (xs : List AssetFacts) (i : ℕ) (c : PictureFacts) → AllPairs (λ a b. a.id ≢ b.id) xs → FitsPicture frames xs c
    → picture_fault xs frames i (picture_data xs c) ≡ None
picture_ok frames xs i c apart fits =
    let found = find_at xs 0 c.asset apart fits.there in
    let quiet = silent (nth_asset xs c.asset).kind fits.shows in
    two_none _ _
    (five_none _ _ _ _ _ (text_ok _ rule.AnyText (id_at xs c.asset) (any_kept (id_at xs c.asset))) (number_ok _ 0 431999 c.at (omega arith) fits.rules.at_in_range)
    (number_ok _ 0 999999 c.from (omega arith) fits.rules.from_in_range) (number_ok _ 1 (frames - c.at) c.count fits.rules.some_count (omega (arith, fits.within)))
    (number_ok _ 1 100 c.hold fits.rules.some_hold fits.rules.most_hold))
    (found_picture _ _ (0 + c.asset) (nth_asset xs c.asset) found quiet)

picture_back : (xs : List AssetFacts) (c : PictureFacts) → AllPairs (λ a b. a.id ≢ b.id) xs → c.asset < length xs
    → picture_in xs (picture_data xs c) ≡ c
picture_back xs c apart h =
    let same : 0 + c.asset ≡ c.asset = omega arith in
    rw (find_at xs 0 c.asset apart h) (ap (λ n. record { asset = n; at = c.at; from = c.from; count = c.count; hold = c.hold }) same)

pub pictures_ok : (frames : ℕ) (xs : List AssetFacts) (i : ℕ) (cs : List PictureFacts) → AllPairs (λ a b. a.id ≢ b.id) xs → All (FitsPicture frames xs) cs
    → first_of (picture_fault xs frames) i (map (picture_data xs) cs) ≡ None
pictures_ok frames xs i [] apart fits = refl
pictures_ok frames xs i (c ∷ cs) apart fits =
    two_none _ _ (picture_ok frames xs i c apart (fits 0 c (omega arith))) (pictures_ok frames xs (i + 1) cs apart (λ k d h. fits (suc k) d (omega arith)))

pub pictures_back : (frames : ℕ) (xs : List AssetFacts) (cs : List PictureFacts) → AllPairs (λ a b. a.id ≢ b.id) xs → All (FitsPicture frames xs) cs
    → map (picture_in xs) (map (picture_data xs) cs) ≡ cs
pictures_back frames xs [] apart fits = refl
pictures_back frames xs (c ∷ cs) apart fits =
    ap (λ b. b ∷ map (picture_in xs) (map (picture_data xs) cs)) (picture_back xs c apart (fits 0 c (omega arith)).there)
    ∙ ap (λ bs. c ∷ bs) (pictures_back frames xs cs apart (λ k d h. fits (suc k) d (omega arith)))

-- ---- gains

pub gains_back : (gs : List GainFacts) → map gain_of (map gain_data gs) ≡ gs
gains_back [] = refl
gains_back (g ∷ gs) = ap (λ rest. g ∷ rest) (gains_back gs)

gain_kinds_ok : (name : List ℕ) (i : ℕ) (gs : List GainFacts) → first_of (gain_kind_fault name) i (map gain_data gs) ≡ None
gain_kinds_ok name i [] = refl
gain_kinds_ok name i (g ∷ gs) = gain_kinds_ok name (i + 1) gs

below : (n m : ℕ) → n < m → nat_lt n m ≡ true
below n m h = grind (arith, nat_tests)

pub range_ok : (name : List ℕ) (b : Bool) (n : ℕ) → b ≡ true → range_fault name b n ≡ None
range_ok name b n e = rw e

gain_ranges_ok : (name : List ℕ) (inputs outputs i : ℕ) (gs : List GainFacts) → All (FitsGain inputs outputs) gs
    → first_of (gain_range_fault name inputs outputs) i gs ≡ None
gain_ranges_ok name inputs outputs i [] fits = refl
gain_ranges_ok name inputs outputs i (g ∷ gs) fits =
    let fit = fits 0 g (omega arith) in
    two_none _ _
    (two_none _ _ (range_ok _ (nat_lt g.from inputs) g.from (below g.from inputs fit.from))
    (two_none _ _ (range_ok _ (nat_lt g.to outputs) g.to (below g.to outputs fit.to)) (range_ok _ (nat_le g.gain 262144) g.gain (le-leb g.gain 262144 fit.rules.gain_in_range))))
    (gain_ranges_ok name inputs outputs (i + 1) gs (λ k d h. fits (suc k) d (omega arith)))

three_none : (f g h : Option ProjectRefusal) → f ≡ None → g ≡ None → h ≡ None → option_or f (option_or g h) ≡ None
three_none f g h a b c = rw (a, b, c)

pub gains_ok : (name : List ℕ) (inputs outputs : ℕ) (gs : List GainFacts) → length gs ≤ 256 → All (FitsGain inputs outputs) gs
    → gains_fault name inputs outputs (Some (list_of (items_of (map gain_data gs)))) ≡ None
gains_ok name inputs outputs gs most fits =
    let short : length (map gain_data gs) ≤ 256 = omega (arith, length-map gs gain_data, most) in
    rw list_of-items_of (three_none _ _ _ (gain_kinds_ok name 0 gs) (range_ok _ _ _ (le-leb _ 256 short))
    (ap (first_of (gain_range_fault name inputs outputs) 0) (gains_back gs) ∙ gain_ranges_ok name inputs outputs 0 gs fits))

-- ---- sound clips

inputs_of : (o : Option (ℕ × AssetFacts)) (i : ℕ) (a : AssetFacts) → o ≡ Some (i, a) → carries_sound a.kind ≡ true → input_channels o ≡ a.channels
inputs_of o i a e k = rw (e, k)

sound_ok : (frames channels : ℕ) (xs : List AssetFacts) (i : ℕ) (c : SoundFacts) → AllPairs (λ a b. a.id ≢ b.id) xs → FitsSound frames channels xs c
    → sound_fault xs frames channels i (sound_data xs c) ≡ None
sound_ok frames channels xs i c apart fits =
    let asset = nth_asset xs c.asset in
    let found = find_at xs 0 c.asset apart fits.there in
    let loud : carries_sound asset.kind ≡ true = sounding asset.kind fits.sounds in
    let inputs = inputs_of _ (0 + c.asset) asset found loud in
    two_none _ _
    (five_none _ _ _ _ _ (text_ok _ rule.AnyText (id_at xs c.asset) (any_kept (id_at xs c.asset))) (number_ok _ 0 431999 c.at (omega arith) fits.rules.at_in_range)
    (number_ok _ 0 999999 c.from (omega arith) fits.rules.from_in_range) (number_ok _ 1 (frames - c.at) c.count fits.rules.some_count (omega (arith, fits.within)))
    (rw inputs (gains_ok (member_name (place.Sound i) (codes "gains")) asset.channels channels c.gains fits.rules.most_gains fits.gains)))
    (found_sound _ _ (0 + c.asset) asset found loud)

sound_back : (xs : List AssetFacts) (c : SoundFacts) → AllPairs (λ a b. a.id ≢ b.id) xs → c.asset < length xs
    → sound_in xs (sound_data xs c) ≡ c
sound_back xs c apart h =
    let same : 0 + c.asset ≡ c.asset = omega arith in
    let gains : map gain_of (list_of (items_of (map gain_data c.gains))) ≡ c.gains =
    ap (map gain_of) (list_of-items_of (map gain_data c.gains)) ∙ gains_back c.gains in
    rw (find_at xs 0 c.asset apart h)
    (ap (λ n. record { asset = n; at = c.at; from = c.from; count = c.count; gains = map gain_of (list_of (items_of (map gain_data c.gains))) }) same
    ∙ ap (λ gs. record { asset = c.asset; at = c.at; from = c.from; count = c.count; gains = gs }) gains)

pub sounds_ok : (frames channels : ℕ) (xs : List AssetFacts) (i : ℕ) (cs : List SoundFacts) → AllPairs (λ a b. a.id ≢ b.id) xs → All (FitsSound frames channels xs) cs
    → first_of (sound_fault xs frames channels) i (map (sound_data xs) cs) ≡ None
sounds_ok frames channels xs i [] apart fits = refl
sounds_ok frames channels xs i (c ∷ cs) apart fits =
    two_none _ _ (sound_ok frames channels xs i c apart (fits 0 c (omega arith))) (sounds_ok frames channels xs (i + 1) cs apart (λ k d h. fits (suc k) d (omega arith)))

pub sounds_back : (frames channels : ℕ) (xs : List AssetFacts) (cs : List SoundFacts) → AllPairs (λ a b. a.id ≢ b.id) xs → All (FitsSound frames channels xs) cs
    → map (sound_in xs) (map (sound_data xs) cs) ≡ cs
sounds_back frames channels xs [] apart fits = refl
sounds_back frames channels xs (c ∷ cs) apart fits =
    ap (λ b. b ∷ map (sound_in xs) (map (sound_data xs) cs)) (sound_back xs c apart (fits 0 c (omega arith)).there)
    ∙ ap (λ bs. c ∷ bs) (sounds_back frames channels xs cs apart (λ k d h. fits (suc k) d (omega arith)))
