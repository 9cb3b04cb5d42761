-- One frame more.
use Rattle.std.proofs.Common.{◌≡◌, ℕ, ◌+◌, ◌*◌, ◌≤◌, List, [], ◌∷◌, ◌++◌, length, take, drop, sum_by, ap, ap₂, sym, ◌∙◌, subst, arith}
use Rattle.std.proofs.lemmas.List.{drop_at, length-append, length-take, map-id}
use Rattle.std.proofs.lemmas.List.Elements.{All-push}
use Rattle.std.proofs.lemmas.List.FromFn.{map-range_with_len_more}
use Rattle.std.proofs.lemmas.List.Sums.{sum_by_push}
use Rattle.std.specs.List.{range_with_len}
use Rattle.film_project.specs.Facts.{ProjectFacts}
use Rattle.mast_world.specs.Content.{Files}
use Rattle.mast_world.specs.Count.{counted}
use Rattle.mast_world.specs.declared.volume.FileId.{FileId}
use Rattle.pcm_mix.specs.Mix.{sound_frame, sound_size, sound_taken}
use Rattle.track_file.specs.TrackFile.{HasItems, PlainTrack}
use Rattle.track_terms.specs.Facts.{PlainFacts}
use Rattle.track_terms.specs.Track.{track}
use Rattle.track_file.proofs.Written.{counted-counted}
use Rattle.sound_track.specs.Sound.{HasFrames, first_taken, first_values, item_size}

-- ---- values and what is taken

pub first_values-more : (files : Files) (project : ProjectFacts) (n : ℕ)
    → first_values files project (n + 1) ≡ first_values files project n ++ sound_frame files project n ∷ []
first_values-more files project n = map-range_with_len_more (sound_frame files project) 0 n n (omega arith)

range_more : (n : ℕ) → range_with_len 0 (n + 1) ≡ range_with_len 0 n ++ n ∷ []
range_more n =
    sym (map-id (range_with_len 0 (n + 1)))
    ∙ map-range_with_len_more (λ i. i) 0 n n (omega arith)
    ∙ ap (λ ns. ns ++ n ∷ []) (map-id (range_with_len 0 n))

first_taken-more : (project : ProjectFacts) (n : ℕ) → first_taken project (n + 1) ≡ first_taken project n + sound_taken project n
first_taken-more project n = ap (sum_by (sound_taken project)) (range_more n) ∙ sum_by_push (sound_taken project) (range_with_len 0 n) n

pub taken_more : (project : ProjectFacts) (n first before now : ℕ) → before ≡ counted first (first_taken project n)
    → now ≡ counted before (sound_taken project n) → now ≡ counted first (first_taken project (n + 1))
taken_more project n first before now so_far more =
    more ∙ ap (λ count. counted count (sound_taken project n)) so_far
    ∙ counted-counted first (first_taken project n) (sound_taken project n)
    ∙ ap (counted first) (sym (first_taken-more project n))

pub put_more : (project : ProjectFacts) (n first before now size : ℕ) → size ≡ item_size project
    → before ≡ counted first (n * item_size project) → now ≡ counted before size → now ≡ counted first ((n + 1) * item_size project)
put_more project n first before now size is so_far more =
    let item = item_size project in
    let next : n * item + item ≡ (n + 1) * item = omega arith in
    more ∙ ap₂ counted so_far is ∙ counted-counted first (n * item) item ∙ ap (counted first) next

-- ---- an item

-- of the room for an item the first 20 bytes are kept, and a value is put behind them
pub record IsMade (room kept longer made slice value : List ℕ) : Type 0 where
  pub head : 20 ≤ length room
  pub kept_is : kept ≡ take 20 room
  pub longer_is : longer ≡ kept ++ slice
  pub slice_is : slice ≡ value
  pub made_is : made ≡ longer

module _ (room kept longer made slice value : List ℕ) (parts : IsMade room kept longer made slice value) where
  length-kept : length kept ≡ 20
  length-kept = ap length parts.kept_is ∙ length-take 20 room ∙ omega (arith, parts.head)

  both : made ≡ kept ++ value
  both = parts.made_is ∙ parts.longer_is ∙ ap (λ value. kept ++ value) parts.slice_is

  pub drop-made : drop 20 made ≡ value
  drop-made = ap (drop 20) both ∙ drop_at kept value 20 length-kept

  pub length-made : (size : ℕ) → length value ≡ size → length made ≡ 20 + size
  length-made size is = omega (arith, ap length both, length-append kept value, length-kept)

-- the value's item stands behind the others
abbrev pub Appends : PlainTrack → PlainTrack → List ℕ → List ℕ → List ℕ → Type 0
Appends before now value bytes written = (values : List (List ℕ)) → HasItems before values bytes → HasItems now (values ++ value ∷ []) written

pub HasItems-more : (files files_now : Files) (project : ProjectFacts) (n : ℕ) (before now : PlainTrack) (value bytes written : List ℕ)
    → files_now ≡ files → value ≡ sound_frame files_now project n → Appends before now value bytes written
    → HasItems before (first_values files project n) bytes → HasItems now (first_values files project (n + 1)) written
HasItems-more files files_now project n before now value bytes written same is appends so_far =
    let mixed = is ∙ ap (λ files. sound_frame files project n) same in
    subst (λ values. HasItems now values written)
    (ap (λ value. first_values files project n ++ value ∷ []) mixed ∙ sym (first_values-more files project n))
    (appends (first_values files project n) so_far)

pub HasFrames-more : (project : ProjectFacts) (n : ℕ) (before now : PlainTrack) (value bytes written : List ℕ)
    → length value ≡ sound_size project project.channels → Appends before now value bytes written
    → HasFrames project n before bytes → HasFrames project (n + 1) now written
HasFrames-more project n before now value bytes written size appends so_far = record {
  values = so_far.values ++ value ∷ [];
  sized = record {
    count = length-append so_far.values (value ∷ []) ∙ ap (λ n. n + 1) so_far.sized.count;
    each = All-push (λ value. length value ≡ sound_size project project.channels) so_far.values value so_far.sized.each size;
  };
  items = appends so_far.values so_far.items;
}

-- ---- the whole file

-- a track that was finished has these facts and is in this file
pub file-finished : (now : PlainTrack) (facts : PlainFacts) (file : FileId) (values : List (List ℕ)) (before after : FileId → List ℕ)
    → now.facts ≡ facts → now.file ≡ file
    → ((values : List (List ℕ)) → HasItems now values (before now.file) → after now.file ≡ track now.facts values)
    → HasItems now values (before file) → after file ≡ track facts values
file-finished now facts file values before after facts_is file_is finished has =
    let IsDone : FileId → Type 0 = λ f. (values : List (List ℕ)) → HasItems now values (before f) → after f ≡ track now.facts values in
    subst IsDone file_is finished values has ∙ ap (λ facts. track facts values) facts_is
