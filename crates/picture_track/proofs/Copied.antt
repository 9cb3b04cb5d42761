-- One more frame in the picture file.
use Rattle.std.proofs.Common.{◌≡◌, ℕ, suc, ◌+◌, ◌-◌, Bool, true, false, List, [], ◌∷◌, ◌++◌, length, take, cond, get_or, Some, Ok, Err, refl, sym, ◌∙◌, ap, subst, add-one, append_assoc, arith}
use Rattle.std.proofs.Math.Seq.{take-suc}
use Rattle.std.proofs.lemmas.List.{append-nil, drop_at, length-append, map_push, take_at}
use Rattle.std.proofs.lemmas.List.Elements.{All-nil, All-push}
use Rattle.std.proofs.lemmas.List.Sums.{sum_by_push}
use Rattle.std.proofs.lemmas.Option.{slice_get-get_or, slice_get_within}
use Rattle.std.specs.Prelude.{slice_get, Result}
use Rattle.codec_terms.specs.Reading.{on_ok}
use Rattle.klv_base.specs.Items.{key_length}
use Rattle.film_project.specs.Facts.{ProjectFacts}
use Rattle.film_timeline.proofs.Fresh.{fresh_step}
use Rattle.film_timeline.specs.Timeline.{cells_of, fresh_cells}
use Rattle.film_timeline.specs.declared.cell.Cell.{Cell}
use Rattle.frame_values.specs.Causes.{IsFrameValue}
use Rattle.frame_values.specs.Shown.{Shown, cell_shown, cells_shown}
use Rattle.frame_values.specs.declared.ends.CellEnd.{CellEnd}
use Rattle.mast_world.specs.Content.{Files, part}
use Rattle.mast_world.specs.Count.{counted}
use Rattle.mast_world.specs.declared.volume.FileId.{FileId}
use Rattle.picture_track.specs.Frames.{IsValueAt, TakesValue}
use Rattle.picture_track.specs.Picture.{HasCopied, HasFrameItems, all_taken, values_of}
use Rattle.track_file.proofs.Items.{body-push, length-essence}
use Rattle.track_file.proofs.Written.{counted-counted}
use Rattle.track_file.specs.TrackFile.{HasItems, PlainTrack}
use Rattle.track_terms.specs.Keys.{key_of}
use Rattle.track_terms.specs.Kinds.{terms_of}
use Rattle.track_terms.specs.Track.{body, essence}
use Rattle.track_terms.specs.declared.kind.TrackKind.{TrackKind}

-- ---- what shown cells show

pub joined : (head : Result Shown CellEnd) (tail : Result (List Shown) CellEnd) (frames : List Shown) → on_ok head (λ shown. on_ok tail (λ rest. Ok (shown ∷ rest))) ≡ Ok frames → (first : Shown) × (rest : List Shown) × (head ≡ Ok first) × (tail ≡ Ok rest) × (first ∷ rest ≡ frames)
joined (Ok first) (Ok rest) frames h = (first, rest, refl, refl, cc)
joined (Ok first) (Err end) frames h = absurd (cc)
joined (Err end) tail frames h = absurd (cc)

frames_push : (files : Files) (project : ProjectFacts) (cells : List Cell) (frames : List Shown) (cell : Cell) (shown : Shown) → cells_shown files project cells ≡ Ok frames → cell_shown files project cell ≡ Ok shown → cells_shown files project (cells ++ cell ∷ []) ≡ Ok (frames ++ shown ∷ [])
unfolding cells_shown
frames_push files project [] frames cell shown all one = rw one (cc)
frames_push files project (x ∷ cells) frames cell shown all one =
    let parts = joined (cell_shown files project x) (cells_shown files project cells) frames all in
    rw (parts.2, frames_push files project cells parts.1 cell shown parts.3 one) (ap (λ frames. Ok (frames ++ shown ∷ [])) parts.4)

take_next : (cells : List Cell) (f : ℕ) (cell : Cell) → slice_get cells f ≡ Some cell → take (suc f) cells ≡ take f cells ++ cell ∷ []
take_next cells f cell is =
    let below = slice_get_within cells f cell is in
    let there : get_or cells f cell ≡ cell = cc (is, slice_get-get_or cells f cell below) in
    take-suc cells f cell below ∙ ap (λ c. take f cells ++ c ∷ []) there

-- what a fresh frame shows is one more
fresh_push : (files : Files) (project : ProjectFacts) (cells : List Cell) (fresh : List Shown) (cell : Cell) (shown : Shown) (repeats : Bool) → cells_shown files project cells ≡ Ok fresh → cell_shown files project cell ≡ Ok shown → cells_shown files project (cells ++ cond repeats [] (cell ∷ [])) ≡ Ok (fresh ++ cond repeats [] (shown ∷ []))
fresh_push files project cells fresh cell shown true all one = rw (append-nil cells, append-nil fresh) all
fresh_push files project cells fresh cell shown false all one = frames_push files project cells fresh cell shown all one

taken_more : (fresh : List Shown) (shown : Shown) (repeats : Bool) → all_taken (fresh ++ cond repeats [] (shown ∷ [])) ≡ all_taken fresh + cond repeats 0 shown.taken
taken_more fresh shown true = ap all_taken (append-nil fresh) ∙ omega arith
taken_more fresh shown false = sum_by_push (λ (shown : Shown). shown.taken) fresh shown

-- ---- one more frame

-- a write made one item more of these bytes
abbrev pub Grows : PlainTrack → PlainTrack → List ℕ → List ℕ → List ℕ → Type 0
Grows before now old new bytes = (values : List (List ℕ)) → HasItems before values old → HasItems now (values ++ bytes ∷ []) new

-- the same of the file's bytes by its name, and of the same bytes
pub Grows-of : (before now : PlainTrack) (old new : FileId → List ℕ) (file : FileId) (value bytes : List ℕ) → before.file ≡ file → value ≡ bytes → Grows before now (old before.file) (new before.file) value → Grows before now (old file) (new file) bytes
Grows-of before now old new file value bytes is same grows =
    subst (λ bytes. Grows before now (old file) (new file) bytes) same (subst (λ file. Grows before now (old file) (new file) value) is grows)

-- an item in a room keeps its value
pub value_kept : (kind : TrackKind) (value item rest : List ℕ) (n : ℕ) → item ≡ essence kind value → length value ≡ n → part (item ++ rest) 20 n ≡ value
value_kept kind value item rest n is size =
    let head = key_length (key_of (terms_of kind).item_key) (length value) in
    let twenty : length head ≡ 20 = omega (arith, length-essence kind value, length-append head value) in
    ap (λ item. part (item ++ rest) 20 n) is
    ∙ ap (λ bytes. part bytes 20 n) (append_assoc head value rest)
    ∙ ap (take n) (drop_at head (value ++ rest) 20 twenty)
    ∙ take_at value rest n size

-- no frame was copied yet
pub nothing_copied : (volume_tells : Type 0) (files : Files) (project : ProjectFacts) (track : PlainTrack) (picture : List ℕ) (taken : ℕ) → (volume_tells → HasItems track [] picture) → HasCopied volume_tells files project 0 track picture taken taken
unfolding cells_shown
nothing_copied volume_tells files project track picture taken begun = record { frames = []; fresh = []; shown = refl; read = refl; written = begun; taken = omega arith }

-- one more frame was copied
pub HasCopied_more : (volume_tells : Type 0) (files : Files) (project : ProjectFacts) (f : ℕ) (before now : PlainTrack) (old new bytes : List ℕ) (taken_first taken_before taken_now : ℕ) → HasCopied volume_tells files project f before old taken_first taken_before → TakesValue files project f bytes taken_before taken_now → (volume_tells → Grows before now old new bytes) → HasCopied volume_tells files project (f + 1) now new taken_first taken_now
HasCopied_more volume_tells files project f before now old new bytes taken_first taken_before taken_now copied one grows = record {
  frames = copied.frames ++ one.shown ∷ [];
  fresh = copied.fresh ++ cond one.repeats [] (one.shown ∷ []);
  shown = ap (λ n. cells_shown files project (take n (cells_of project))) (add-one f)
      ∙ ap (cells_shown files project) (take_next (cells_of project) f one.cell one.at)
      ∙ frames_push files project (take f (cells_of project)) copied.frames one.cell one.shown copied.shown one.is;
  read = ap (cells_shown files project) (fresh_step (cells_of project) f one.repeats one.cell one.at one.test)
      ∙ fresh_push files project (fresh_cells (take f (cells_of project))) copied.fresh one.cell one.shown one.repeats copied.read one.is;
  written = λ tells.
      let value : values_of copied.frames ++ bytes ∷ [] ≡ values_of (copied.frames ++ one.shown ∷ []) =
      ap (λ bytes. values_of copied.frames ++ bytes ∷ []) one.made ∙ sym (map_push (λ (shown : Shown). shown.value) copied.frames one.shown) in
      rw value at (grows tells (values_of copied.frames) (copied.written tells));
  taken = one.taken
      ∙ ap (λ t. counted t (cond one.repeats 0 one.shown.taken)) copied.taken
      ∙ counted-counted taken_first (all_taken copied.fresh) (cond one.repeats 0 one.shown.taken)
      ∙ ap (counted taken_first) (sym (taken_more copied.fresh one.shown one.repeats));
}

-- no item was written yet
pub no_items : (project : ProjectFacts) (track : PlainTrack) (picture : List ℕ) (put : ℕ) → HasItems track [] picture → HasFrameItems project 0 track picture put put
no_items project track picture put begun = record { values = []; count = refl; each = All-nil (IsFrameValue project); written = begun; put = omega arith }

-- one more item was written
pub HasFrameItems_more : (project : ProjectFacts) (f : ℕ) (before now : PlainTrack) (old new bytes : List ℕ) (put_first put_before put_now : ℕ) → HasFrameItems project f before old put_first put_before → IsFrameValue project bytes → now.facts ≡ before.facts → Grows before now old new bytes → put_now ≡ counted put_before (20 + length bytes) → HasFrameItems project (f + 1) now new put_first put_now
HasFrameItems_more project f before now old new bytes put_first put_before put_now so_far one same grows put =
    let kind = before.facts.kind in
    let more : length (body now.facts.kind (so_far.values ++ bytes ∷ [])) ≡ length (body kind so_far.values) + (20 + length bytes) =
    ap (λ facts. length (body facts.kind (so_far.values ++ bytes ∷ []))) same
    ∙ ap length (body-push kind so_far.values bytes)
    ∙ length-append (body kind so_far.values) (essence kind bytes)
    ∙ ap (λ n. length (body kind so_far.values) + n) (length-essence kind bytes) in
    record {
      values = so_far.values ++ bytes ∷ [];
      count = length-append so_far.values (bytes ∷ []) ∙ ap (λ n. n + 1) so_far.count;
      each = All-push (IsFrameValue project) so_far.values bytes so_far.each one;
      written = grows so_far.values so_far.written;
      put = put
          ∙ ap (λ count. counted count (20 + length bytes)) so_far.put
          ∙ counted-counted put_first (length (body kind so_far.values)) (20 + length bytes)
          ∙ ap (counted put_first) (sym more);
    }

-- the value that was taken is that of the frame before the next one
pub held_next : (files : Files) (project : ProjectFacts) (f : ℕ) (bytes : List ℕ) (taken_before taken_now : ℕ) → TakesValue files project f bytes taken_before taken_now → IsValueAt files project (f + 1 - 1) bytes
held_next files project f bytes taken_before taken_now one =
    let e : f + 1 - 1 ≡ f = omega arith in
    record { cell = one.cell; shown = one.shown; at = ap (slice_get (cells_of project)) e ∙ one.at; is = one.is; made = one.made }
