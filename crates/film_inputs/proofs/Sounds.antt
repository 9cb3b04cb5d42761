-- A project whose inputs are there and long enough has the files of its clips of sound.
use Rattle.std.proofs.Common.{◌≡◌, ℕ, zero, suc, ◌+◌, ◌*◌, ◌<◌, ◌≤◌, Bool, true, false, cond, List, [], ◌∷◌, length, get_or, Option, Some, None, refl, ap, sym, subst, ◌∙◌, eq-eqb, arith}
use Rattle.std.proofs.Math.Bool.{or-true}
use Rattle.std.proofs.Math.Logic.{⊎_elim}
use Rattle.std.proofs.lemmas.Bool.{cases_lt}
use Rattle.std.proofs.lemmas.Bool.Decides.{nat_tests}
use Rattle.std.proofs.lemmas.List.Folds.{list_any_at}
use Rattle.std.proofs.lemmas.List.FromFn.{get_or-map-range_with_len, length-map-range_with_len}
use Rattle.std.proofs.lemmas.Nat.{mul-le}
use Rattle.std.proofs.lemmas.Option.{none-some}
use Rattle.std.specs.Prelude.{◌&&◌, ◌||◌, ◌==◌, nat_lt, unwrap_or}
use Rattle.std.specs.List.{list_any}
use Rattle.std.specs.Option.{option_or}
use Rattle.film_plan.specs.Needs.{Short, first_short, frames_played, greatest, need_by, need_of, short_from, sound_size}
use Rattle.film_project.specs.Facts.{AssetFacts, ProjectFacts, SoundFacts, asset_at, no_asset}
use Rattle.film_project.specs.Rules.{IsProject}
use Rattle.film_project.specs.declared.asset.AssetKind.TheVariants.{Pcm24}
use Rattle.mast_world.specs.Content.{Files, Reaches}
use Rattle.pcm_mix.proofs.ClipFrames.{reaches_less}
use Rattle.pcm_mix.specs.Mix.{AreSoundsThere, clip_size}
use Rattle.film_inputs.specs.Inputs.{is_named, is_single, is_wanted, missing_at, missing_before, missing_input, missing_name, size_at, sizes_of}

-- each count is at most the greatest
greatest_at : {T : Type 0} (count : T → ℕ) (items : List T) (k : ℕ) (d : T) →
    k < length items → count (get_or items k d) ≤ greatest count items
greatest_at count [] k d below = omega (arith, below)
greatest_at count (item ∷ items) zero d below = omega arith
greatest_at count (item ∷ items) (suc k) d below =
    let rest = greatest_at count items k d (omega (arith, below)) in
    omega (arith, rest)

-- ---- files that aren't missing

neither : {T : Type 0} (a b : Option T) → option_or a b ≡ None → (a ≡ None) × (b ≡ None)
neither None b none = (refl, none)
neither (Some x) b none = absurd (none-some x (sym none))

none_missing_at : (files : Files) (project : ProjectFacts) (n place : ℕ) →
    place < n → missing_before files project n ≡ None → missing_at files project place ≡ None
none_missing_at files project zero place below none = absurd (omega (arith, below))
none_missing_at files project (suc n) place below none =
    let both = neither (missing_before files project n) (missing_at files project n) none in
    ⊎_elim
    (λ earlier. none_missing_at files project n place earlier both.0)
    (λ last. let here : place ≡ n = omega (arith, below, last) in ap (missing_at files project) here ∙ both.1)
    (cases_lt place n)

-- a file that isn't missing, and has so many bytes, reaches so far
reaches : (name : List ℕ) (file : Option (List ℕ)) (end : ℕ) →
    missing_name name file ≡ None → end ≤ length (unwrap_or file []) → Reaches file end
reaches name None end none long = absurd (none-some name (sym none))
reaches name (Some bytes) end none long = long

-- ---- files that aren't short

settled : (short : Short) (rest : Option Short) (is_short : Bool) →
    cond is_short (Some short) rest ≡ None → (is_short ≡ false) × (rest ≡ None)
settled short rest true none = absurd (none-some short (sym none))
settled short rest false none = (refl, none)

-- the first asset has what it needs, and so have the others
none_short : (project : ProjectFacts) (start : ℕ) (asset : AssetFacts) (assets : List AssetFacts) (size : ℕ) (sizes : List ℕ) →
    short_from project start (asset ∷ assets) (size ∷ sizes) ≡ None →
    (need_of project start asset ≤ size) × (short_from project (start + 1) assets sizes ≡ None)
none_short project start asset assets size sizes none =
    let need = need_of project start asset in
    let short : Short = record { asset = asset.id; size = size; need = need } in
    let both = settled short (short_from project (start + 1) assets sizes) (nat_lt size need) none in
    let enough : need ≤ size = grind (arith, nat_tests, both.0) in
    (enough, both.1)

none_short_at : (project : ProjectFacts) (start : ℕ) (assets : List AssetFacts) (sizes : List ℕ) (k : ℕ) →
    length sizes ≡ length assets → k < length assets → short_from project start assets sizes ≡ None →
    need_of project (start + k) (get_or assets k no_asset) ≤ get_or sizes k 0
none_short_at project start [] sizes k whole below none = omega (arith, below)
none_short_at project start (asset ∷ assets) [] k whole below none = omega (arith, whole)
none_short_at project start (asset ∷ assets) (size ∷ sizes) zero whole below none =
    let same : start + 0 ≡ start = omega arith in
    subst (λ place. need_of project place asset ≤ size) (sym same) (none_short project start asset assets size sizes none).0
none_short_at project start (asset ∷ assets) (size ∷ sizes) (suc k) whole below none =
    let same : start + 1 + k ≡ start + suc k = omega arith in
    let rest = (none_short project start asset assets size sizes none).1 in
    subst (λ place. need_of project place (get_or assets k no_asset) ≤ get_or sizes k 0) same
    (none_short_at project (start + 1) assets sizes k (omega (arith, whole)) (omega (arith, below)) rest)

-- an asset has as many bytes as it needs
enough_at : (files : Files) (project : ProjectFacts) (place : ℕ) →
    place < length project.assets → first_short project (sizes_of files project) ≡ None →
    need_of project place (asset_at project place) ≤ size_at files project place
enough_at files project place below enough =
    let count = length project.assets in
    let asset = asset_at project place in
    let sizes = sizes_of files project in
    let whole : length sizes ≡ count = length-map-range_with_len (size_at files project) 0 count in
    let same : 0 + place ≡ place = omega arith in
    let size : get_or sizes place 0 ≡ size_at files project place =
    get_or-map-range_with_len (size_at files project) 0 count place place 0 below same in
    subst (λ size. need_of project place asset ≤ size) size
    (subst (λ p. need_of project p asset ≤ get_or sizes place 0) same
    (none_short_at project 0 project.assets sizes place whole below enough))

-- ---- clips of sound

-- a file of sound that a clip names is looked for
sound_wanted : (project : ProjectFacts) (place : ℕ) →
    (asset_at project place).kind ≡ Pcm24 → is_named project place ≡ true → is_wanted project place ≡ true
sound_wanted project place sounds named = ap (λ kind. is_single kind && is_named project place) sounds ∙ named

-- a clip of sound names the asset at its place
sound_named : (project : ProjectFacts) (place k : ℕ) (d : SoundFacts) →
    k < length project.sound → (get_or project.sound k d).asset ≡ place → is_named project place ≡ true
sound_named project place k d below is =
    let shown = list_any (λ clip. clip.asset == place) project.picture in
    let itself = eq-eqb (get_or project.sound k d).asset place is in
    ap (λ played. shown || played) (list_any_at (λ clip. clip.asset == place) project.sound k d below itself) ∙ or-true shown

-- the file of an asset of sound reaches to the end of the last frame that a clip plays
sound_there : (files : Files) (project : ProjectFacts) (place : ℕ) →
    place < length project.assets → (asset_at project place).kind ≡ Pcm24 → is_named project place ≡ true →
    missing_input files project ≡ None → first_short project (sizes_of files project) ≡ None →
    Reaches (files (asset_at project place).file)
    (greatest (frames_played place) project.sound * sound_size project (asset_at project place).channels)
sound_there files project place below sounds named none enough =
    let asset = asset_at project place in
    let file = files asset.file in
    let end = greatest (frames_played place) project.sound * sound_size project asset.channels in
    let wanted = sound_wanted project place sounds named in
    let missing = none_missing_at files project (length project.assets) place below none in
    let there : missing_name asset.file file ≡ None = subst (λ b. cond b (missing_name asset.file file) None ≡ None) wanted missing in
    let size : size_at files project place ≡ length (unwrap_or file []) = ap (λ b. cond b (length (unwrap_or file [])) 0) wanted in
    let need : need_of project place asset ≡ end = ap (λ kind. need_by kind project place asset.channels) sounds in
    reaches asset.file file end there (omega (arith, size, need, enough_at files project place below enough))

-- the clip's own frames are among those that its asset needs
clip_within : (clip : SoundFacts) (clips : List SoundFacts) (k : ℕ) (d : SoundFacts) → k < length clips → clip ≡ get_or clips k d →
    clip.from + clip.count ≤ greatest (frames_played clip.asset) clips
clip_within clip clips k d below is =
    let itself : (clip.asset == clip.asset) ≡ true = eq-eqb clip.asset clip.asset refl in
    let own : frames_played clip.asset clip ≡ clip.from + clip.count = ap (λ b. cond b (clip.from + clip.count) 0) itself in
    let played : frames_played clip.asset (get_or clips k d) ≡ frames_played clip.asset clip = ap (frames_played clip.asset) (sym is) in
    omega (arith, own, played, greatest_at (frames_played clip.asset) clips k d below)

-- where all inputs are there and none is short, each clip of sound has its file
pub sounds_there : (files : Files) (project : ProjectFacts) → IsProject project →
    missing_input files project ≡ None → first_short project (sizes_of files project) ≡ None → AreSoundsThere files project
sounds_there files project rules none enough = λ k d below.
    let clip = get_or project.sound k d in
    let fits = rules.sound_fits k d below in
    let size = clip_size project clip in
    let own = clip.from + clip.count in
    let most = greatest (frames_played clip.asset) project.sound in
    let within : own ≤ most = clip_within clip project.sound k d below refl in
    let named = sound_named project clip.asset k d below refl in
    reaches_less (files (asset_at project clip.asset).file) (own * size) (most * size) (mul-le own size most size within (omega arith))
    (sound_there files project clip.asset fits.there fits.sounds named none enough)
