-- What was written, and which outcomes are left where there is a picture file.
use Rattle.std.proofs.Common.{◌≡◌, ℕ, zero, suc, ◌+◌, List, [], ◌∷◌, ◌++◌, length, take, Some, Ok, Err, inl, inr, refl, sym, ◌∙◌, ap, subst, arith}
use Rattle.std.proofs.lemmas.List.{length-append, take_all}
use Rattle.std.specs.Prelude.{slice_get, IsOk, IfErr, Result}
use Rattle.codec_terms.specs.Reading.{on_ok}
use Rattle.disk_terms.specs.Disk.{History}
use Rattle.film_plan.proofs.Cells.{length-cells_of}
use Rattle.film_project.specs.Facts.{ProjectFacts}
use Rattle.film_timeline.specs.Timeline.{cells_of, fresh_cells}
use Rattle.film_timeline.specs.declared.cell.Cell.{Cell}
use Rattle.frame_values.specs.Shown.{Shown, cell_shown, cells_shown}
use Rattle.frame_values.specs.declared.ends.CellEnd.{CellEnd}
use Rattle.mast_world.specs.Content.{Files}
use Rattle.mast_world.specs.Count.{HasRisen, counted}
use Rattle.mast_world.specs.declared.volume.FileId.{FileId}
use Rattle.mxf_track.proofs.Segments.{length-tail}
use Rattle.mxf_track.specs.Sizes.{tail_size}
use Rattle.picture_track.proofs.Copied.{joined}
use Rattle.picture_track.specs.Causes.{IsCopyCause, IsFrameCause, IsOutOfMemory, IsPictureCause}
use Rattle.picture_track.specs.Picture.{HasCopied, HasFrameItems, HasFrameValues, IsPicture, all_taken, picture_facts, picture_of, picture_put, values_of}
use Rattle.picture_track.specs.declared.outcome.FrameEnd.{FrameEnd}
use Rattle.picture_track.specs.declared.outcome.FrameEnd.TheVariants as of_frame
use Rattle.picture_track.specs.declared.outcome.PictureEnd.{PictureEnd}
use Rattle.picture_track.specs.declared.outcome.PictureEnd.TheVariants.{Frame, Track}
use Rattle.picture_track.specs.declared.outcome.PictureEnd.TheVariants as picture
use Rattle.track_file.proofs.Written.{counted-counted}
use Rattle.track_file.specs.TrackFile.{HasItems, PlainTrack}
use Rattle.track_file.specs.declared.end.TrackEnd.TheVariants as of_track
use Rattle.track_terms.proofs.HeadSizes.{length-head}
use Rattle.track_terms.specs.Facts.{PlainFacts}
use Rattle.track_terms.specs.Head.{head}
use Rattle.track_terms.specs.Tail.{tail}
use Rattle.track_terms.specs.Track.{body, footer_of, places_from, track}

-- ---- what was written

all_cells : (project : ProjectFacts) → take project.frames (cells_of project) ≡ cells_of project
all_cells project = (let length_is = length-cells_of project in take_all project.frames (cells_of project) (omega arith))

-- all frames were shown
pub all_shown : (tells : Type 0) (files : Files) (project : ProjectFacts) (track : PlainTrack) (picture : List ℕ) (before now : ℕ) → (copied : HasCopied tells files project project.frames track picture before now) → cells_shown files project (cells_of project) ≡ Ok copied.frames
all_shown tells files project track picture before now copied = ap (cells_shown files project) (sym (all_cells project)) ∙ copied.shown

-- the end of a track that has these items is written, which makes it whole
abbrev pub Finishes : PlainTrack → List ℕ → List ℕ → Type 0
Finishes written picture whole = (values : List (List ℕ)) → HasItems written values picture → whole ≡ track written.facts values

-- the same of the file's bytes by its name
pub Finishes-of : (written : PlainTrack) (old new : FileId → List ℕ) (file : FileId) → written.file ≡ file → Finishes written (old written.file) (new written.file) → Finishes written (old file) (new file)
Finishes-of written old new file is finishes = subst (λ file. Finishes written (old file) (new file)) is finishes

-- once all frames are copied and the track is finished, the file is the project's
pub picture_made : (tells : Type 0) (files : Files) (project : ProjectFacts) (asset : List ℕ) (written : PlainTrack) (picture whole : List ℕ) (before taken : ℕ) → written.facts ≡ picture_facts project asset → (tells → Finishes written picture whole) → HasCopied tells files project project.frames written picture before taken → IsPicture tells files project asset whole before taken
picture_made tells files project asset written picture whole before taken facts finishes copied = record {
  made = track (picture_facts project asset) (values_of copied.frames);
  size = all_taken copied.fresh;
  shown = ap (λ shown. on_ok shown (λ frames. Ok (track (picture_facts project asset) (values_of frames))))
      (all_shown tells files project written picture before taken copied);
  read = ap (λ cells. on_ok (cells_shown files project (fresh_cells cells)) (λ frames. Ok (all_taken frames))) (sym (all_cells project))
      ∙ ap (λ shown. on_ok shown (λ frames. Ok (all_taken frames))) copied.read;
  written = λ told. finishes told (values_of copied.frames) (copied.written told) ∙ ap (λ facts. track facts (values_of copied.frames)) facts;
  taken = copied.taken;
}

pub values_made : (project : ProjectFacts) (asset : List ℕ) (written : PlainTrack) (picture whole : List ℕ) (before now : ℕ) → written.facts ≡ picture_facts project asset → Finishes written picture whole → HasFrameItems project project.frames written picture before now → HasFrameValues project asset whole
values_made project asset written picture whole before now facts finishes items = record {
  values = items.values;
  count = items.count;
  each = items.each;
  written = finishes items.values items.written ∙ ap (λ facts. track facts items.values) facts;
}

length-places_from : (at : ℕ) (values : List (List ℕ)) → length (places_from at values) ≡ length values
length-places_from at [] = refl
length-places_from at (value ∷ values) = ap suc (length-places_from (at + 20 + length value) values)

length-track : (facts : PlainFacts) (values : List (List ℕ)) → length facts.asset ≡ 16 → length (track facts values) ≡ 16508 + length (body facts.kind values) + tail_size (length values)
length-track facts values sixteen =
    let footer = footer_of facts.kind values in
    let places = places_from 16508 values in
    let count : tail_size (length places) ≡ tail_size (length values) = ap tail_size (length-places_from 16508 values) in
    omega (
      arith,
      length-append (head facts footer ++ body facts.kind values) (tail facts places footer),
      length-append (head facts footer) (body facts.kind values),
      length-head facts footer sixteen,
      length-tail facts places footer,
      count,
    )

-- the head was put, the items, the tail and the head once more
pub all_put : (project : ProjectFacts) (written : PlainTrack) (picture whole : List ℕ) (first begun copied now : ℕ) → length written.facts.asset ≡ 16 → written.facts.frames ≡ project.frames → Finishes written picture whole → begun ≡ counted first 16508 → HasFrameItems project project.frames written picture begun copied → now ≡ counted copied (tail_size written.facts.frames + 16508) → now ≡ counted first (picture_put whole)
all_put project written picture whole first begun copied now sixteen frames finishes head items end =
    let size = length (body written.facts.kind items.values) in
    let long : length whole ≡ 16508 + size + tail_size project.frames =
    ap length (finishes items.values items.written)
    ∙ length-track written.facts items.values sixteen
    ∙ ap (λ n. 16508 + size + tail_size n) items.count in
    let behind : now ≡ counted copied (tail_size project.frames + 16508) = end ∙ ap (λ n. counted copied (tail_size n + 16508)) frames in
    behind
    ∙ ap (λ count. counted count (tail_size project.frames + 16508)) (items.put ∙ ap (λ count. counted count size) head ∙ counted-counted first 16508 size)
    ∙ counted-counted first (16508 + size) (tail_size project.frames + 16508)
    ∙ ap (counted first) (omega (arith, long))

-- ---- outcomes

-- where all cells are shown, each is
pub each_shown : (files : Files) (project : ProjectFacts) (cells : List Cell) (frames : List Shown) → cells_shown files project cells ≡ Ok frames → (f : ℕ) (cell : Cell) → slice_get cells f ≡ Some cell → (shown : Shown) × (cell_shown files project cell ≡ Ok shown)
unfolding cells_shown
each_shown files project [] frames all f cell at = absurd (cc)
each_shown files project (x ∷ cells) frames all zero cell at =
    let parts = joined (cell_shown files project x) (cells_shown files project cells) frames all in
    let same : x ≡ cell = cc in
    (parts.0, ap (cell_shown files project) (sym same) ∙ parts.2)
each_shown files project (x ∷ cells) frames all (suc f) cell at =
    let parts = joined (cell_shown files project x) (cells_shown files project cells) frames all in
    each_shown files project cells parts.1 parts.3 f cell at

shown_by : {A : Type 0} (shown : Result (List Shown) CellEnd) (of : List Shown → A) → IsOk {T = A} {E = CellEnd} (on_ok shown (λ frames. Ok (of frames))) → (frames : List Shown) × (shown ≡ Ok frames)
shown_by (Ok frames) of is = (frames, refl)
shown_by (Err end) of is = absurd (cc)

-- a cell that shows nothing leaves no picture file
none_ends : (files : Files) (project : ProjectFacts) (asset : List ℕ) (f : ℕ) (cell : Cell) (end : CellEnd) → IsOk (picture_of files project asset) → slice_get (cells_of project) f ≡ Some cell → cell_shown files project cell ≡ Err end → ⊥
none_ends files project asset f cell end there at is =
    let all = shown_by (cells_shown files project (cells_of project)) (λ frames. track (picture_facts project asset) (values_of frames)) there in
    let one = each_shown files project (cells_of project) all.0 all.1 f cell at in
    cc (one.1, is)

-- where there is a picture file and no count of faults rose, a frame has no value for want of memory alone
frame_left :
    {A : Type 0} {tells : Type 0} (told : tells) (files : Files) (project : ProjectFacts) (asset : List ℕ) (absent faults : A → ℕ) (before now : A) (end : FrameEnd) →
    IsOk (picture_of files project asset) → ¬ HasRisen (faults before) (faults now) →
    IsFrameCause tells files project absent faults before now end → end ≡ of_frame.NoMemory
frame_left {A} {tells} told files project asset absent faults before now (of_frame.Missing name) there calm is =
    absurd (none_ends files project asset is.0.f is.0.cell _ there is.0.reached.at (is.0.gone told))
frame_left {A} {tells} told files project asset absent faults before now (of_frame.Bad f why) there calm is =
    absurd (none_ends files project asset f is.cell _ there is.reached.at (is.told told))
frame_left {A} {tells} told files project asset absent faults before now of_frame.SourceFault there calm is = absurd (calm is)
frame_left {A} {tells} told files project asset absent faults before now of_frame.NoMemory there calm is = refl

-- nor is there a picture file for another reason
pub picture_left :
    {A B : Type 0} {tells : Type 0} (told : tells) (files : Files) (project : ProjectFacts) (asset : List ℕ) (absent faults : A → ℕ) (before now : A)
    (store_faults : B → ℕ) (volume volume_now : B) (end : PictureEnd) →
    IsOk (picture_of files project asset) → ¬ HasRisen (faults before) (faults now) → ¬ HasRisen (store_faults volume) (store_faults volume_now) →
    IsCopyCause tells files project absent faults before now store_faults volume volume_now end → IsOutOfMemory end
picture_left told files project asset absent faults before now store_faults volume volume_now (Frame end) there calm still is =
    inr (inr (ap Frame (frame_left told files project asset absent faults before now end there calm is)))
picture_left told files project asset absent faults before now store_faults volume volume_now (Track of_track.StoreFault) there calm still is = absurd (still is)
picture_left told files project asset absent faults before now store_faults volume volume_now (Track of_track.NoMemory) there calm still is = inr (inl refl)
picture_left told files project asset absent faults before now store_faults volume volume_now picture.NoMemory there calm still is = absurd is

-- how putting the frames ends the writing, as it is seen from an earlier state of the volume
pub copy_cause :
    {A B : Type 0} (tells : Type 0) (files : Files) (project : ProjectFacts) (absent faults : A → ℕ) (before now : A)
    (store_tells : Type 0) (reads : B → FileId → List ℕ) (put : B → FileId → ℕ) (store_faults : B → ℕ) (history : B → History FileId) (first volume volume_now : B) (end : PictureEnd) →
    store_faults volume ≡ store_faults first →
    IsCopyCause tells files project absent faults before now store_faults volume volume_now end →
    IsPictureCause tells files project absent faults before now store_tells reads put store_faults history first volume_now end
copy_cause tells files project absent faults before now store_tells reads put store_faults history first volume volume_now (Frame end) same is = is
copy_cause tells files project absent faults before now store_tells reads put store_faults history first volume volume_now (Track of_track.StoreFault) same is = omega (arith, same, is)
copy_cause tells files project absent faults before now store_tells reads put store_faults history first volume volume_now (Track of_track.NoMemory) same is = tt
copy_cause tells files project absent faults before now store_tells reads put store_faults history first volume volume_now picture.NoMemory same is = absurd is

-- what is known of the error that a call hands up, and of the error itself
pub ended_by : {T E : Type 0} (r : Result T E) (made end : E) (P : E → Type 0) → r ≡ Err made → made ≡ end → P end → IfErr r P
ended_by r made end P is same holds = subst (λ r. IfErr r P) (sym (is ∙ ap Err same)) holds
