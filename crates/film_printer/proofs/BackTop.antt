-- The canonical JSON of a project has no fault, and reads back.
use Rattle.std.proofs.Common.{◌≡◌, ℕ, ◌+◌, ◌<◌, ◌≤◌, ◌==◌, List, [], ◌++◌, map, length, slice_index, All, Bool, true, false, ◌||◌, not, nat_lt, nat_le, cond, Option, Some, None, refl, sym, ap, ◌∙◌, subst, arith, inl}
use Rattle.std.specs.Option.{option_or}
use Rattle.std.proofs.lemmas.Bool.{le-leb}
use Rattle.std.proofs.lemmas.Bool.Decides.{nat_tests}
use Rattle.std.proofs.lemmas.List.{length-map}
use Rattle.serde_json.specs.Data.{Data}
use Rattle.serde_json.specs.View.{items_of}
use Rattle.uuid.specs.Text.{parsed, hyphenated_text, lower, hex_digit, nibble, digit_place, is_hyphen_place}
use Rattle.uuid.proofs.TextLemmas.{by_index_length, by_index_at, nibble_small}
use Rattle.uuid.proofs.RoundTrips.{parses_hyphenated}
use Rattle.film_project.specs.Accepts.{project_fault, project_in, namespace_in, assets_fault, picture_fault, sound_fault, picture_in, sound_in, asset_in}
use Rattle.film_project.specs.Canonical.{project_data, asset_data, picture_data, sound_data}
use Rattle.film_project.specs.Facts.{AssetFacts, PictureFacts, SoundFacts, ProjectFacts}
use Rattle.film_project.specs.Members.{list_of, first_of, value_or, objects_fault, rate_fault, count_fault, is_frame_rate, members_fault}
use Rattle.film_project.specs.Objects.{title_members, format_members, list_members, project_members, object_fault}
use Rattle.film_project.specs.Rules.{IsProject}
use Rattle.film_project.specs.Texts.{keeps, offends, fits_uuid, is_lower_hex, first_place}
use Rattle.film_project.specs.declared.place.Place.TheVariants as place
use Rattle.film_project.specs.declared.refusal.ProjectRefusal.{ProjectRefusal}
use Rattle.film_project.specs.declared.text_rule.TextRule.TheVariants as rule
use Rattle.film_printer.proofs.Back.{four_none, list_of-items_of, text_ok, number_ok, two_none, assets_ok, assets_back}
use Rattle.film_printer.proofs.BackClips.{range_ok, pictures_ok, pictures_back, sounds_ok, sounds_back}
use Rattle.film_project.proofs.Kept.{none-first_place}
use Rattle.film_project.proofs.Walks.{members_fault-later}

-- ---- the namespace's text

lower_digit : (d : ℕ) → d < 16 → is_lower_hex (hex_digit lower d) ≡ true
lower_digit d h = grind (arith, nat_tests)

fits_either : (h : Bool) (x : ℕ) → is_lower_hex x ≡ true → cond h (cond h 45 x == 45) (is_lower_hex (cond h 45 x)) ≡ true
fits_either true x e = refl
fits_either false x e = e

not_yet : (k : ℕ) → k < 36 → nat_le 36 k ≡ false
not_yet k h = grind (arith, nat_tests)

passes : (a b : Bool) → a ≡ false → b ≡ true → (a || not b) ≡ false
passes a b e h = rw (e, h)

uuid_place : (xs : List ℕ) (k : ℕ) → k < 36 → offends rule.Namespace (hyphenated_text lower xs) k ≡ false
uuid_place xs k h =
    let digit = hex_digit lower (nibble xs (digit_place k)) in
    let at : slice_index (hyphenated_text lower xs) k ≡ cond (is_hyphen_place k) 45 digit =
    by_index_at 36 (λ j. cond (is_hyphen_place j) 45 (hex_digit lower (nibble xs (digit_place j)))) k 0 h in
    let fits : fits_uuid k (slice_index (hyphenated_text lower xs) k) ≡ true =
    subst (λ b. fits_uuid k b ≡ true) (sym at) (fits_either (is_hyphen_place k) digit (lower_digit (nibble xs (digit_place k)) (nibble_small xs (digit_place k)))) in
    passes (nat_le 36 k) _ (not_yet k h) fits

zero_plus : (k : ℕ) → k ≡ 0 + k
zero_plus k = omega arith

pub namespace_kept : (xs : List ℕ) → keeps rule.Namespace (hyphenated_text lower xs) ≡ true
namespace_kept xs =
    let long : length (hyphenated_text lower xs) ≡ 36 = by_index_length 36 _ in
    let none : first_place (offends rule.Namespace (hyphenated_text lower xs)) 0 (length (hyphenated_text lower xs)) ≡ None =
    rw long (none-first_place (offends rule.Namespace (hyphenated_text lower xs)) 0 36 (λ k h. subst (λ j. offends rule.Namespace (hyphenated_text lower xs) j ≡ false) (zero_plus k) (uuid_place xs k h))) in
    rw (none, long) refl

namespace_back : (xs : List ℕ) → length xs ≡ 16 → All (λ b. b < 256) xs → value_or [] (parsed (hyphenated_text lower xs)) ≡ xs
namespace_back xs len small = ap (value_or []) (sym (parses_hyphenated lower xs (inl refl) len small))

-- ---- the members of the top object

titles_ok : (p : ProjectFacts) → IsProject p → members_fault place.Project (project_data p) title_members ≡ None
titles_ok p r =
    four_none _ _ _ _ (text_ok _ rule.Title p.title r.title_kept) (text_ok _ rule.ContentKind p.kind r.kind_kept) (text_ok _ rule.Issued p.issued r.issued_kept)
    (text_ok _ rule.Namespace (hyphenated_text lower p.namespace) (namespace_kept p.namespace))

rate_ok : (name : List ℕ) (n : ℕ) → is_frame_rate n ≡ true → rate_fault name (Some n) ≡ None
rate_ok name n e = rw e

not_above : (n : ℕ) → n ≤ 432000 → nat_lt 432000 n ≡ false
not_above n h = grind (arith, nat_tests)

some : (n : ℕ) → 1 ≤ n → nat_le 1 n ≡ true
some n h = grind (arith, nat_tests)

count_ok : (name : List ℕ) (n : ℕ) → 1 ≤ n → n ≤ 432000 → count_fault name (Some n) ≡ None
count_ok name n l h = rw (not_above n h, some n l)

seven_none : (f g h k l m n : Option ProjectRefusal) → f ≡ None → g ≡ None → h ≡ None → k ≡ None → l ≡ None → m ≡ None → n ≡ None
    → option_or f (option_or g (option_or h (option_or k (option_or l (option_or m (option_or n None)))))) ≡ None
seven_none f g h k l m n a b c d e i j = rw (a, b, c, d, e, i, j)

format_ok : (p : ProjectFacts) → IsProject p → members_fault place.Project (project_data p) format_members ≡ None
format_ok p r =
    seven_none _ _ _ _ _ _ _ (number_ok _ 32 2048 p.width r.least_width r.most_width) (number_ok _ 32 1080 p.height r.least_height r.most_height)
    (rate_ok _ p.fps r.fps_known) (number_ok _ 10 250 p.rate r.least_rate r.most_rate) (number_ok _ 11 13 p.power r.least_power r.most_power)
    (number_ok _ 0 16 p.channels (omega arith) r.most_channels) (count_ok _ p.frames r.some_frames r.most_frames)

list_ok : (name : List ℕ) (ds : List Data) → length ds ≤ 1000 → objects_fault name (Some (list_of (items_of ds))) ≡ None
list_ok name ds h = rw list_of-items_of (range_ok name (nat_le (length ds) 1000) (length ds) (le-leb (length ds) 1000 h))

three_none : (f g h : Option ProjectRefusal) → f ≡ None → g ≡ None → h ≡ None → option_or f (option_or g (option_or h None)) ≡ None
three_none f g h a b c = rw (a, b, c)

mapped : {A B : Type 0} (f : A → B) (xs : List A) (n : ℕ) → length xs ≤ n → length (map f xs) ≤ n
mapped f xs n h = omega (arith, length-map xs f, h)

lists_ok : (p : ProjectFacts) → IsProject p → members_fault place.Project (project_data p) list_members ≡ None
lists_ok p r =
    three_none _ _ _ (list_ok _ _ (mapped asset_data p.assets 1000 r.most_assets))
    (list_ok _ _ (mapped (picture_data p.assets) p.picture 1000 r.most_picture))
    (list_ok _ _ (mapped (sound_data p.assets) p.sound 1000 r.most_sound))

top_ok : (p : ProjectFacts) → IsProject p → object_fault place.Project project_members (project_data p) ≡ None
top_ok p r =
    let d = project_data p in
    two_none _ _ refl
    (members_fault-later place.Project d title_members (format_members ++ list_members) None (titles_ok p r)
    (members_fault-later place.Project d format_members list_members None (format_ok p r) (lists_ok p r)))

-- ---- the whole

abbrev assets_of : ProjectFacts → List Data
assets_of p = map asset_data p.assets

abbrev pictures_of : ProjectFacts → List Data
pictures_of p = map (picture_data p.assets) p.picture

abbrev sounds_of : ProjectFacts → List Data
sounds_of p = map (sound_data p.assets) p.sound

known_assets : (p : ProjectFacts) → map asset_in (list_of (items_of (assets_of p))) ≡ p.assets
known_assets p = ap (map asset_in) (list_of-items_of (assets_of p)) ∙ assets_back p.assets

pub project_ok : (p : ProjectFacts) → IsProject p → project_fault (project_data p) ≡ None
project_ok p r =
    let assets : assets_fault 0 [] (list_of (items_of (assets_of p))) ≡ None =
    ap (assets_fault 0 []) (list_of-items_of (assets_of p)) ∙ assets_ok p.assets 0 [] r.each_asset r.distinct_ids (λ k d h. refl) in
    let facts = known_assets p in
    let pictures : first_of (picture_fault (map asset_in (list_of (items_of (assets_of p)))) p.frames) 0 (list_of (items_of (pictures_of p))) ≡ None =
    rw (facts, list_of-items_of (pictures_of p)) (pictures_ok p.frames p.assets 0 p.picture r.distinct_ids r.picture_fits) in
    let sounds : first_of (sound_fault (map asset_in (list_of (items_of (assets_of p)))) p.frames p.channels) 0 (list_of (items_of (sounds_of p))) ≡ None =
    rw (facts, list_of-items_of (sounds_of p)) (sounds_ok p.frames p.channels p.assets 0 p.sound r.distinct_ids r.sound_fits) in
    two_none _ _ (top_ok p r) (two_none _ _ assets (two_none _ _ pictures sounds))

-- a project by its parts
abbrev made : ProjectFacts → List ℕ → List AssetFacts → List PictureFacts → List SoundFacts → ProjectFacts
made p namespace assets picture sound = record {
  title = p.title;
  kind = p.kind;
  issued = p.issued;
  namespace = namespace;
  width = p.width;
  height = p.height;
  fps = p.fps;
  rate = p.rate;
  power = p.power;
  channels = p.channels;
  frames = p.frames;
  assets = assets;
  picture = picture;
  sound = sound;
}

made_same : (p : ProjectFacts) (namespace : List ℕ) (assets : List AssetFacts) (picture : List PictureFacts) (sound : List SoundFacts)
    → namespace ≡ p.namespace → assets ≡ p.assets → picture ≡ p.picture → sound ≡ p.sound
    → made p namespace assets picture sound ≡ p
made_same p namespace assets picture sound a b c d = rw (a, b, c, d)

pub project_back : (p : ProjectFacts) → IsProject p → project_in (project_data p) ≡ p
project_back p r =
    let facts = known_assets p in
    let pictures : map (picture_in (map asset_in (list_of (items_of (assets_of p))))) (list_of (items_of (pictures_of p))) ≡ p.picture =
    rw (facts, list_of-items_of (pictures_of p)) (pictures_back p.frames p.assets p.picture r.distinct_ids r.picture_fits) in
    let sounds : map (sound_in (map asset_in (list_of (items_of (assets_of p))))) (list_of (items_of (sounds_of p))) ≡ p.sound =
    rw (facts, list_of-items_of (sounds_of p)) (sounds_back p.frames p.channels p.assets p.sound r.distinct_ids r.sound_fits) in
    made_same p (namespace_in (project_data p)) _ _ _ (namespace_back p.namespace r.namespace_length r.namespace_bytes) facts pictures sounds
