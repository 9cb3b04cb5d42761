-- What the clips of a list add, one clip after another.
use Rattle.std.proofs.Common.{◌≡◌, ℕ, ◌+◌, ◌<◌, ◌≤◌, Bool, true, false, cond, List, [], ◌∷◌, ◌++◌, length, take, get_or, filter, sum_by, ℤ, ◌+ℤ◌, ap, sym, ◌∙◌, arith}
use Rattle.std.proofs.lemmas.Int.{ints}
use Rattle.std.proofs.lemmas.List.{append-nil, take_all}
use Rattle.std.proofs.lemmas.List.Elements.{filter_more}
use Rattle.std.proofs.lemmas.List.Sums.{sum_by_push}
use Rattle.film_project.specs.Facts.{SoundFacts, ProjectFacts}
use Rattle.mast_world.specs.Content.{Files}
use Rattle.mast_world.specs.Count.{counted}
use Rattle.pcm_mix.specs.Mix.{clip_part, clip_size, plays, sound_taken, total}
use Rattle.pcm_mix.specs.Sums.{AreRaised}
use Rattle.pcm_mix.proofs.Totals.{total_more}

abbrev pub mixed_of : Files → ProjectFacts → ℕ → List SoundFacts → ℕ → ℕ → ℤ
mixed_of files project f clips i to = total (λ clip. clip_part files project clip f i to) (filter (λ clip. plays clip f) clips)

-- ---- one clip more, which plays or not

mixed_more : (files : Files) (project : ProjectFacts) (f : ℕ) (clips : List SoundFacts) (n : ℕ) (clip : SoundFacts) (i to : ℕ) (b : Bool) →
    n < length clips → clip ≡ get_or clips n clip → plays clip f ≡ b →
    mixed_of files project f (take (n + 1) clips) i to ≡ mixed_of files project f (take n clips) i to +ℤ total (λ clip. clip_part files project clip f i to) (cond b (clip ∷ []) [])
mixed_more files project f clips n clip i to b inside is test =
    let part : SoundFacts → ℤ = λ clip. clip_part files project clip f i to in
    total_more part (λ clip. plays clip f) clips n clip inside
    ∙ ap (λ c. mixed_of files project f (take n clips) i to +ℤ total part (filter (λ clip. plays clip f) (c ∷ []))) (sym is)
    ∙ ap (λ t. mixed_of files project f (take n clips) i to +ℤ total part (cond t (clip ∷ []) [])) test

pub raised_by_clip : (files : Files) (project : ProjectFacts) (f : ℕ) (clips : List SoundFacts) (n : ℕ) (clip : SoundFacts) (count channels : ℕ) (first before now : List ℤ) →
    n < length clips → clip ≡ get_or clips n clip → plays clip f ≡ true →
    AreRaised (mixed_of files project f (take n clips)) count channels first before → AreRaised (clip_part files project clip f) count channels before now →
    AreRaised (mixed_of files project f (take (n + 1) clips)) count channels first now
raised_by_clip files project f clips n clip count channels first before now inside is test so_far raised =
    λ i to i_below to_below.
    omega (arith, ints, so_far i to i_below to_below, raised i to i_below to_below, mixed_more files project f clips n clip i to true inside is test)

pub raised_without : (files : Files) (project : ProjectFacts) (f : ℕ) (clips : List SoundFacts) (n : ℕ) (clip : SoundFacts) (count channels : ℕ) (first now : List ℤ) →
    n < length clips → clip ≡ get_or clips n clip → plays clip f ≡ false →
    AreRaised (mixed_of files project f (take n clips)) count channels first now → AreRaised (mixed_of files project f (take (n + 1) clips)) count channels first now
raised_without files project f clips n clip count channels first now inside is test so_far =
    λ i to i_below to_below. omega (arith, ints, so_far i to i_below to_below, mixed_more files project f clips n clip i to false inside is test)

-- what is read

counted_on : (count a b : ℕ) → counted (counted count a) b ≡ counted count (a + b)
counted_on count a b = omega arith

filter_one : (f : ℕ) (clips : List SoundFacts) (n : ℕ) (clip : SoundFacts) (b : Bool) → n < length clips → clip ≡ get_or clips n clip → plays clip f ≡ b →
    filter (λ clip. plays clip f) (take (n + 1) clips) ≡ filter (λ clip. plays clip f) (take n clips) ++ cond b (clip ∷ []) []
filter_one f clips n clip b inside is test =
    filter_more (λ clip. plays clip f) clips n clip inside
    ∙ ap (λ c. filter (λ clip. plays clip f) (take n clips) ++ cond (plays c f) (c ∷ []) []) (sym is)
    ∙ ap (λ t. filter (λ clip. plays clip f) (take n clips) ++ cond t (clip ∷ []) []) test

pub taken_more : (project : ProjectFacts) (f : ℕ) (clips : List SoundFacts) (n : ℕ) (clip : SoundFacts) (first before now : ℕ) → n < length clips → clip ≡ get_or clips n clip → plays clip f ≡ true →
    before ≡ counted first (sum_by (clip_size project) (filter (λ clip. plays clip f) (take n clips))) → now ≡ counted before (clip_size project clip) →
    now ≡ counted first (sum_by (clip_size project) (filter (λ clip. plays clip f) (take (n + 1) clips)))
taken_more project f clips n clip first before now inside is test so_far more =
    more ∙ ap (λ t. counted t (clip_size project clip)) so_far
    ∙ counted_on first (sum_by (clip_size project) (filter (λ clip. plays clip f) (take n clips))) (clip_size project clip)
    ∙ ap (counted first) (sym (ap (sum_by (clip_size project)) (filter_one f clips n clip true inside is test)
    ∙ sum_by_push (clip_size project) (filter (λ clip. plays clip f) (take n clips)) clip))

pub taken_same : (project : ProjectFacts) (f : ℕ) (clips : List SoundFacts) (n : ℕ) (clip : SoundFacts) (first now : ℕ) → n < length clips → clip ≡ get_or clips n clip → plays clip f ≡ false →
    now ≡ counted first (sum_by (clip_size project) (filter (λ clip. plays clip f) (take n clips))) →
    now ≡ counted first (sum_by (clip_size project) (filter (λ clip. plays clip f) (take (n + 1) clips)))
taken_same project f clips n clip first now inside is test so_far =
    so_far ∙ ap (λ l. counted first (sum_by (clip_size project) l))
    (sym (filter_one f clips n clip false inside is test ∙ append-nil (filter (λ clip. plays clip f) (take n clips))))

-- once all clips are seen
pub taken_all : (project : ProjectFacts) (f n first now : ℕ) → length project.sound ≤ n →
    now ≡ counted first (sum_by (clip_size project) (filter (λ clip. plays clip f) (take n project.sound))) → now ≡ counted first (sound_taken project f)
taken_all project f n first now all so_far =
    so_far ∙ ap (λ clips. counted first (sum_by (clip_size project) (filter (λ clip. plays clip f) clips))) (take_all n project.sound all)
