-- The canonical JSON has no float, and nests five deep.
use Rattle.std.proofs.Common.{◌≡◌, ℕ, ◌≤◌, List, [], ◌∷◌, map, Bool, false, ◌||◌, refl, arith}
use Rattle.serde_json.specs.Data.{Data, depth, items_depth}
use Rattle.serde_json.specs.View.{items_of}
use Rattle.serde_json.specs.Written.{has_float, items_have_float}
use Rattle.film_project.specs.Canonical.{asset_data, picture_data, gain_data, sound_data, project_data}
use Rattle.film_project.specs.Facts.{AssetFacts, SoundFacts, ProjectFacts}

neither : (a b : Bool) → a ≡ false → b ≡ false → (a || b) ≡ false
neither a b e h = rw (e, h)

no_floats : {X : Type 0} (f : X → Data) (xs : List X) → ((x : X) → has_float (f x) ≡ false) → items_have_float (items_of (map f xs)) ≡ false
no_floats f [] none = refl
no_floats f (x ∷ xs) none = neither (has_float (f x)) _ (none x) (no_floats f xs none)

or_false : (a : Bool) → a ≡ false → (a || false) ≡ false
or_false a e = rw e

sound_whole : (assets : List AssetFacts) (c : SoundFacts) → has_float (sound_data assets c) ≡ false
sound_whole assets c = or_false (items_have_float (items_of (map gain_data c.gains))) (no_floats gain_data c.gains (λ g. refl))

pub project_whole : (p : ProjectFacts) → has_float (project_data p) ≡ false
project_whole p =
    neither (items_have_float (items_of (map asset_data p.assets))) _ (no_floats asset_data p.assets (λ a. refl))
    (neither (items_have_float (items_of (map (picture_data p.assets) p.picture))) _ (no_floats (picture_data p.assets) p.picture (λ c. refl))
    (or_false (items_have_float (items_of (map (sound_data p.assets) p.sound))) (no_floats (sound_data p.assets) p.sound (sound_whole p.assets))))

-- ---- depths

items_deep : {X : Type 0} (f : X → Data) (most : ℕ) (xs : List X) → ((x : X) → depth (f x) ≤ most) → items_depth (items_of (map f xs)) ≤ most
items_deep f most [] none = omega arith
items_deep f most (x ∷ xs) none = omega (arith, none x, items_deep f most xs none)

sound_deep : (assets : List AssetFacts) (c : SoundFacts) → depth (sound_data assets c) ≤ 3
sound_deep assets c =
    let gains : items_depth (items_of (map gain_data c.gains)) ≤ 1 = items_deep gain_data 1 c.gains (λ g. omega arith) in
    omega (arith, gains)

pub project_deep : (p : ProjectFacts) → depth (project_data p) ≤ 127
project_deep p =
    let assets : items_depth (items_of (map asset_data p.assets)) ≤ 1 = items_deep asset_data 1 p.assets (λ a. omega arith) in
    let pictures : items_depth (items_of (map (picture_data p.assets) p.picture)) ≤ 1 = items_deep (picture_data p.assets) 1 p.picture (λ c. omega arith) in
    let sounds : items_depth (items_of (map (sound_data p.assets) p.sound)) ≤ 3 = items_deep (sound_data p.assets) 3 p.sound (sound_deep p.assets) in
    omega (arith, assets, pictures, sounds)
