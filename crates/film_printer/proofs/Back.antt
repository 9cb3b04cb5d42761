-- The canonical JSON of assets has no fault, and reads back.
use Rattle.std.proofs.Common.{if◌then◌else◌, add-zero, ◌≡◌, ◌≢◌, ℕ, zero, suc, ◌+◌, ◌<◌, ◌≤◌, List, [], ◌∷◌, ◌++◌, map, length, get_or, All, bytes_eq, Bool, true, false, ◌||◌, Option, Some, None, option_map, is_none, refl, sym, ap, ◌∙◌, arith}
use Rattle.std.specs.List.{AllPairs}
use Rattle.std.specs.Option.{option_or}
use Rattle.std.proofs.lemmas.Bool.Decides.{nat_tests}
use Rattle.std.proofs.lemmas.Slice.Eq.{bytes_eq-Decides}
use Rattle.serde_json.specs.Data.{Data}
use Rattle.serde_json.specs.View.{items_of}
use Rattle.film_project.specs.Accepts.{asset_in, assets_fault, find_asset}
use Rattle.film_project.specs.Canonical.{asset_data, id_at}
use Rattle.film_project.specs.Facts.{AssetFacts, no_asset, nth_asset}
use Rattle.film_project.specs.Members.{list_of, text_fault, number_fault, within}
use Rattle.film_project.specs.Objects.{asset_members, object_fault}
use Rattle.film_project.specs.Rules.{IsAsset}
use Rattle.film_project.specs.Texts.{keeps, text_place, is_one_of}
use Rattle.film_project.specs.declared.asset.AssetKind.{AssetKind}
use Rattle.film_project.specs.declared.asset.AssetKind.TheVariants.{Rgb48, Ppm, J2c, Pcm24}
use Rattle.film_project.specs.declared.place.Place.TheVariants as place
use Rattle.film_project.specs.declared.refusal.ProjectRefusal.{ProjectRefusal}
use Rattle.film_project.specs.declared.refusal.ProjectRefusal.TheVariants.{BadText}
use Rattle.film_project.specs.declared.text_rule.TextRule.{TextRule}
use Rattle.film_project.specs.declared.text_rule.TextRule.TheVariants as rule
use Rattle.film_project.proofs.Ids.{same_itself}

-- ---- lists

pub list_of-items_of : (ds : List Data) → list_of (items_of ds) ≡ ds
list_of-items_of [] = refl
list_of-items_of (d ∷ ds) = ap (λ es. d ∷ es) (list_of-items_of ds)

-- ---- single members

no_fault : (name : List ℕ) (at : Option ℕ) → is_none at ≡ true → option_map (BadText name) at ≡ None
no_fault name None e = refl
no_fault name (Some at) e = absurd (cc)

pub text_ok : (name : List ℕ) (rule : TextRule) (s : List ℕ) → keeps rule s ≡ true → text_fault name rule (Some s) ≡ None
text_ok name rule s e = no_fault name (text_place rule s) e

within_range : (low high n : ℕ) → low ≤ n → n ≤ high → within low high n ≡ true
within_range low high n l h = grind (arith, nat_tests)

pub number_ok : (name : List ℕ) (low high n : ℕ) → low ≤ n → n ≤ high → number_fault name low high (Some n) ≡ None
number_ok name low high n l h = rw (within_range low high n l h)

pub two_none : (f g : Option ProjectRefusal) → f ≡ None → g ≡ None → option_or f g ≡ None
two_none f g e h = rw (e, h)

-- ---- one asset

abbrev pub facts : List ℕ → AssetKind → List ℕ → ℕ → AssetFacts
facts id kind file channels = record { id = id; kind = kind; file = file; channels = channels }

pub four_none : (f g h k : Option ProjectRefusal) → f ≡ None → g ≡ None → h ≡ None → k ≡ None → option_or f (option_or g (option_or h (option_or k None))) ≡ None
four_none f g h k a b c d = rw (a, b, c, d)

is_zero : (n : ℕ) → n ≡ 0 → n ≤ 0
is_zero n e = omega (arith, e)

pub asset_ok : (i : ℕ) (id : List ℕ) (kind : AssetKind) (file : List ℕ) (n : ℕ) → keeps rule.Id id ≡ true → keeps rule.File file ≡ true → n ≤ 16
    → (kind ≡ Pcm24 → 1 ≤ n) → (kind ≢ Pcm24 → n ≡ 0)
    → object_fault (place.Asset i) (asset_members (asset_data (facts id kind file n))) (asset_data (facts id kind file n)) ≡ None
asset_ok i id Rgb48 file n keep_id keep_file most some none =
    four_none _ _ _ _ (text_ok _ rule.Id id keep_id) refl (text_ok _ rule.File file keep_file) (number_ok _ 0 0 n (omega arith) (is_zero n (none (λ e. cc))))
asset_ok i id Ppm file n keep_id keep_file most some none =
    four_none _ _ _ _ (text_ok _ rule.Id id keep_id) refl (text_ok _ rule.File file keep_file) (number_ok _ 0 0 n (omega arith) (is_zero n (none (λ e. cc))))
asset_ok i id J2c file n keep_id keep_file most some none =
    four_none _ _ _ _ (text_ok _ rule.Id id keep_id) refl (text_ok _ rule.File file keep_file) (number_ok _ 0 0 n (omega arith) (is_zero n (none (λ e. cc))))
asset_ok i id Pcm24 file n keep_id keep_file most some none =
    four_none _ _ _ _ (text_ok _ rule.Id id keep_id) refl (text_ok _ rule.File file keep_file) (number_ok _ 1 16 n (some refl) most)

pub asset_back : (id : List ℕ) (kind : AssetKind) (file : List ℕ) (n : ℕ) → asset_in (asset_data (facts id kind file n)) ≡ facts id kind file n
asset_back id Rgb48 file n = refl
asset_back id Ppm file n = refl
asset_back id J2c file n = refl
asset_back id Pcm24 file n = refl

-- ---- all assets

pub assets_back : (xs : List AssetFacts) → map asset_in (map asset_data xs) ≡ xs
assets_back [] = refl
assets_back (a ∷ rest) = ap (λ b. b ∷ map asset_in (map asset_data rest)) (asset_back a.id a.kind a.file a.channels) ∙ ap (λ bs. a ∷ bs) (assets_back rest)

not_true : (b : Bool) → (b ≡ true → ⊥) → b ≡ false
not_true true other = absurd (other refl)
not_true false other = refl

both_false : (a b c : Bool) → (a || b) ≡ false → (b ≡ false → a ≡ false → c ≡ false) → (a || c) ≡ false
both_false true b c e f = absurd (cc)
both_false false b c e f = f e refl

pub different : (xs ys : List ℕ) → xs ≢ ys → bytes_eq xs ys ≡ false
different xs ys other = not_true (bytes_eq xs ys) (λ e. other ((bytes_eq-Decides xs ys).0 e))

one_more : (seen : List (List ℕ)) (x s : List ℕ) → is_one_of seen s ≡ false → bytes_eq x s ≡ false → is_one_of (seen ++ x ∷ []) s ≡ false
one_more [] x s e h = rw h
one_more (y ∷ seen) x s e h = both_false (bytes_eq y s) (is_one_of seen s) (is_one_of (seen ++ x ∷ []) s) e (λ none _. one_more seen x s none h)

pub double_ok : (b : Bool) (r : ProjectRefusal) → b ≡ false → (if b then Some r else None) ≡ None
double_ok b r e = rw e

pub assets_ok : (xs : List AssetFacts) (i : ℕ) (seen : List (List ℕ)) → All IsAsset xs → AllPairs (λ a b. a.id ≢ b.id) xs → All (λ a. is_one_of seen a.id ≡ false) xs
    → assets_fault i seen (map asset_data xs) ≡ None
assets_ok [] i seen kept apart new = refl
assets_ok (a ∷ rest) i seen kept apart new =
    let r : IsAsset a = kept 0 a (omega arith) in
    let later_new : All (λ b. is_one_of (seen ++ a.id ∷ []) b.id ≡ false) rest =
    λ k d h. one_more seen a.id (get_or rest k d).id (new (suc k) d (omega arith)) (different a.id (get_or rest k d).id (apart 0 (suc k) d (omega arith) (omega arith))) in
    two_none _ _
    (two_none _ _ (asset_ok i a.id a.kind a.file a.channels r.id_kept r.file_kept r.most_channels r.some_channels r.no_channels)
    (double_ok (is_one_of seen a.id) _ (new 0 a (omega arith))))
    (assets_ok rest (i + 1) (seen ++ a.id ∷ []) (λ k d h. kept (suc k) d (omega arith)) (λ j k d below h. apart (suc j) (suc k) d (omega arith) (omega arith)) later_new)

-- ---- an asset by its id

pub find_at : (xs : List AssetFacts) (i k : ℕ) → AllPairs (λ a b. a.id ≢ b.id) xs → k < length xs
    → find_asset (id_at xs k) i xs ≡ Some (i + k, nth_asset xs k)
find_at [] i k apart h = absurd (omega arith)
find_at (a ∷ rest) i zero apart h = rw (same_itself a.id) (ap (λ n. Some (n, a)) (sym (add-zero i)))
find_at (a ∷ rest) i (suc k) apart h =
    let other : a.id ≢ (nth_asset rest k).id = apart 0 (suc k) no_asset (omega arith) h in
    let miss : bytes_eq a.id (id_at rest k) ≡ false = different a.id (nth_asset rest k).id other in
    let same : i + 1 + k ≡ i + suc k = omega arith in
    rw miss (find_at rest (i + 1) k (λ j m d below w. apart (suc j) (suc m) d (omega arith) (omega arith)) (omega arith)
    ∙ ap (λ n. Some (n, nth_asset rest k)) same)
