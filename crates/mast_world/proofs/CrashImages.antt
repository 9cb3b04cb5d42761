-- What holds of the images of a file of a volume in memory.
use Rattle.std.proofs.Common.{◌≡◌, ℕ, ◌+◌, ◌-◌, ◌≤◌, ◌<◌, ◌⊎◌, inl, inr, Bool, true, false, List, [], ◌∷◌, ◌++◌, length}
use Rattle.std.proofs.Common.{take, drop, get_or, refl, sym, ◌∙◌, ap, subst, arith, rules}
use Rattle.std.proofs.Math.ListN.{replicate}
use Rattle.std.proofs.lemmas.Bool.{cases_lt, or_parts}
use Rattle.std.proofs.lemmas.List.{places, same_lists, length-append, length-take, length-drop, length-replicate}
use Rattle.std.proofs.lemmas.List.{get_or_append_left, get_or-append_right, get_or-take, get_or-drop}
use Rattle.std.proofs.lemmas.List.Sums.{fold_push}
use Rattle.std.specs.Prelude.{◌/◌, max, min, fold, if◌then◌else◌, Result, Ok, Err, IfOk, OnOk}
use Rattle.disk_terms.specs.Disk.{AreBytes, MayLeave, Trail, at_rest, cut_to, is_in, was_written, written_to}
use Rattle.mast_world.specs.Crash.{AreRemains, Write, crash_image, laid, laid_by, padded, trail_in, unsynced}
use Rattle.mast_world.specs.Crash.{unsynced_by}
use Rattle.mast_world.specs.FileEntry.{same_file}
use Rattle.mast_world.specs.Log.{changed_by, file_of, history_of, nothing_there}
use Rattle.mast_world.specs.declared.change.Change.{Change}
use Rattle.mast_world.specs.declared.change.Change.TheVariants.{Written, Cut, Synced}
use Rattle.mast_world.specs.declared.crash.CrashImage.{CrashImage}
use Rattle.mast_world.specs.declared.crash.CrashImage.TheVariants.{AsBefore, AsWritten, HalfWritten, AllOnes}
use Rattle.mast_world.specs.declared.crash.Remains.{Remains}
use Rattle.mast_world.specs.declared.volume.FileId.{FileId}
use Rattle.disk_terms.specs.Disk.{History}
use Rattle.mast_world.proofs.Logs.{history_on}
use Rattle.mast_world.proofs.SameFile.{same_file-true}

grown_front : (old : List ℕ) (at size : ℕ) → size ≡ max (length old) at
    → take at (take size old ++ replicate (size - length old) 0) ≡ take at (old ++ replicate at 0)
grown_front old at size is = same_lists _ _ (search (rules, places)) (λ k d h. grind (arith, places))

grown_rest : (old : List ℕ) (at more size : ℕ) → size ≡ max (length old) at
    → drop (at + more) (take size old ++ replicate (size - length old) 0) ≡ drop (at + more) old
grown_rest old at more size is = same_lists _ _ (search (rules, places)) (λ k d h. grind (arith, places))

-- bytes over others that were filled up to the place
pub laid_grown : (at : ℕ) (new old : List ℕ) (size : ℕ) → size ≡ max (length old) at
    → take at (take size old ++ replicate (size - length old) 0) ++ new ++ drop (at + length new)
    (take size old ++ replicate (size - length old) 0) ≡ laid at new old
laid_grown at new old size is =
    let grown = take size old ++ replicate (size - length old) 0 in
    ap (λ front. front ++ new ++ drop (at + length new) grown) (grown_front old at size is)
    ∙ ap (λ rest. take at (old ++ replicate at 0) ++ new ++ rest) (grown_rest old at (length new) size is)

-- what is laid over bytes keeps their length, and each byte outside of its range
length_front : (at : ℕ) (old : List ℕ) → length (take at (old ++ replicate at 0)) ≡ at
length_front at old = simp (length-take, length-append, length-replicate) (omega arith)

length-laid : (at : ℕ) (new old : List ℕ)
    → length (laid at new old) ≡ at + length new + (length old - (at + length new))
length-laid at new old =
    let front = length_front at old in
    simp (length-append, length-drop) (omega arith)

-- a place outside of a range
outside : (at size place : ℕ) → is_in place (record { at = at; size = size }) ≡ false
    → (place < at) ⊎ (at + size ≤ place)
outside at size place out =
    elim (cases_lt place at) [
      | inl before ↦ inl before
      | inr from ↦ elim (cases_lt place (at + size)) [
        | inl below ↦ absurd (grind arith)
        | inr behind ↦ inr behind
      ]
    ]

laid_outside : (at : ℕ) (new old : List ℕ) (place : ℕ) → place < length old → (place < at) ⊎ (at + length new ≤ place)
    → get_or (laid at new old) place 0 ≡ get_or old place 0
laid_outside at new old place within (inl before) =
    let front = length_front at old in
    let both : length (take at (old ++ replicate at 0) ++ new) ≡ at + length new =
    length-append (take at (old ++ replicate at 0)) new ∙ ap (λ n. n + length new) front in
    get_or_append_left (take at (old ++ replicate at 0) ++ new) (drop (at + length new) old) 0 place (omega arith)
    ∙ (get_or_append_left (take at (old ++ replicate at 0)) new 0 place (omega arith)
    ∙ (get_or-take at (old ++ replicate at 0) place 0 before ∙ get_or_append_left old (replicate at 0) 0 place within))
laid_outside at new old place within (inr behind) =
    let front = length_front at old in
    let both : length (take at (old ++ replicate at 0) ++ new) ≡ at + length new =
    length-append (take at (old ++ replicate at 0)) new ∙ ap (λ n. n + length new) front in
    let on : at + length new + (place - (at + length new)) ≡ place = omega arith in
    get_or-append_right (take at (old ++ replicate at 0) ++ new) (drop (at + length new) old)
    (at + length new) place 0 both behind
    ∙ (get_or-drop (at + length new) old (place - (at + length new)) 0 ∙ ap (λ n. get_or old n 0) on)

-- bytes that have all of the old ones' places, and the old byte at this one
pub record Keeps (place : ℕ) (old new : List ℕ) : Type 0 where
  pub longer : length old ≤ length new
  pub same : get_or new place 0 ≡ get_or old place 0

laid_keeps : (at size : ℕ) (new old : List ℕ) (place : ℕ) → length new ≤ size → place < length old
    → is_in place (record { at = at; size = size }) ≡ false
    → Keeps place old (laid at new old)
laid_keeps at size new old place most within out = record {
  longer = omega (arith, length-laid at new old);
  same = laid_outside at new old place within
      (elim (outside at size place out) [ inl before ↦ inl before | inr behind ↦ inr (omega arith) ]);
}

image_keeps : (image : CrashImage) (at : ℕ) (bytes old : List ℕ) (place : ℕ) → place < length old
    → is_in place (record { at = at; size = length bytes }) ≡ false
    → Keeps place old (laid_by image old (record { at = at; bytes = bytes }))
image_keeps AsBefore at bytes old place within out = record { longer = omega arith; same = refl }
image_keeps AsWritten at bytes old place within out =
    laid_keeps at (length bytes) bytes old place (omega arith) within out
image_keeps HalfWritten at bytes old place within out =
    laid_keeps at (length bytes) (take (length bytes / 2) bytes) old place
    (omega (arith, length-take (length bytes / 2) bytes)) within out
image_keeps AllOnes at bytes old place within out =
    laid_keeps at (length bytes) (replicate (length bytes) 1) old place
    (omega (arith, length-replicate {A = ℕ})) within out

-- a trail and the writes since its sync
pub record AreOf (trail : Trail) (writes : List Write) : Type 0 where
  pub least : trail.least ≤ length trail.synced
  pub greatest : length trail.synced ≤ trail.greatest
  pub kept : (image : CrashImage) (place : ℕ) → place < length trail.synced → was_written trail place ≡ false
      → Keeps place trail.synced (fold (laid_by image) trail.synced writes)

written_of : (trail : Trail) (writes : List Write) (at : ℕ) (bytes : List ℕ) → AreOf trail writes
    → AreOf (written_to at (length bytes) trail) (writes ++ record { at = at; bytes = bytes } ∷ [])
written_of trail writes at bytes were = record {
  least = were.least;
  greatest = omega (arith, were.greatest);
  kept = λ image place within out.
      let parts = or_parts (is_in place (record { at = at; size = length bytes })) (was_written trail place) out in
      let old = fold (laid_by image) trail.synced writes in
      let front : Keeps place trail.synced old = were.kept image place within parts.1 in
      let inside : place < length old = omega (arith, within, front.longer) in
      let more = image_keeps image at bytes old place inside parts.0 in
      subst (Keeps place trail.synced)
      (sym (fold_push (laid_by image) trail.synced writes (record { at = at; bytes = bytes })))
      (record { longer = omega (arith, front.longer, more.longer); same = more.same ∙ front.same });
}

cut_of : (trail : Trail) (writes : List Write) (size : ℕ) → AreOf trail writes → AreOf (cut_to size trail) writes
cut_of trail writes size were = record { least = omega (arith, were.least); greatest = were.greatest; kept = were.kept }

synced_of : (bytes : List ℕ) → AreOf (at_rest bytes) []
synced_of bytes = record {
  least = omega arith;
  greatest = omega arith;
  kept = λ _ _ _ _. record { longer = omega arith; same = refl };
}

changed_of : (file : FileId) (history : History FileId) (writes : List Write) (change : Change)
    → AreOf (history.newest file) writes
    → AreOf ((changed_by history change).newest file) (unsynced_by file writes change)
changed_of file history writes (Written other at bytes) were = by_case (same_file file other) refl
  where
    by_case : (b : Bool) → same_file file other ≡ b
        → AreOf (if b then written_to at (length bytes) (history.newest other) else history.newest file)
        (if b then writes ++ record { at = at; bytes = bytes } ∷ [] else writes)
    by_case true is =
        let more = writes ++ record { at = at; bytes = bytes } ∷ [] in
        subst (λ (f : FileId). AreOf (written_to at (length bytes) (history.newest f)) more)
        (same_file-true file other is) (written_of (history.newest file) writes at bytes were)
    by_case false is = were
changed_of file history writes (Cut other size) were = by_case (same_file file other) refl
  where
    by_case : (b : Bool) → same_file file other ≡ b
        → AreOf (if b then cut_to size (history.newest other) else history.newest file) writes
    by_case true is =
        subst (λ (f : FileId). AreOf (cut_to size (history.newest f)) writes) (same_file-true file other is)
        (cut_of (history.newest file) writes size were)
    by_case false is = were
changed_of file history writes (Synced other bytes) were = by_case (same_file file other)
  where
    by_case : (b : Bool) → AreOf (if b then at_rest bytes else history.newest file) (if b then [] else writes)
    by_case true = synced_of bytes
    by_case false = were

folded_of : (file : FileId) (log : List Change) (history : History FileId) (writes : List Write)
    → AreOf (history.newest file) writes
    → AreOf ((fold changed_by history log).newest file) (fold (unsynced_by file) writes log)
folded_of file [] history writes were = were
folded_of file (change ∷ log) history writes were =
    folded_of file log (changed_by history change) (unsynced_by file writes change)
    (changed_of file history writes change were)

-- of every log
pub unsynced-are_of : (log : List Change) (file : FileId) → AreOf (trail_in log file) (unsynced log file)
unfolding history_of unsynced
unsynced-are_of log file = folded_of file log nothing_there [] (synced_of [])

-- the image in which no write was done has the synced bytes
pub fold-as_before : (synced : List ℕ) (writes : List Write) → fold (laid_by AsBefore) synced writes ≡ synced
fold-as_before synced [] = refl
fold-as_before synced (write ∷ writes) = fold-as_before synced writes

front_left : (trail : Trail) (writes : List Write) → AreOf trail writes → AreBytes (take trail.least trail.synced)
    → MayLeave trail (take trail.least trail.synced)
front_left trail writes were small =
    let size : length (take trail.least trail.synced) ≡ trail.least =
    length-take trail.least trail.synced ∙ omega (arith, were.least) in
    record {
      least = omega (arith, size);
      greatest = omega (arith, size, were.least, were.greatest);
      kept = λ place within inside out. get_or-take trail.least trail.synced place 0 (omega (arith, size, within));
      small = small;
    }

length-padded : (fill size : ℕ) (bytes : List ℕ) → length (padded fill size bytes) ≡ size
length-padded fill size bytes = simp (length-take, length-append, length-replicate) (omega arith)

padded_left : (image : CrashImage) (fill : ℕ) (trail : Trail) (writes : List Write) → AreOf trail writes
    → AreBytes (padded fill trail.greatest (fold (laid_by image) trail.synced writes))
    → MayLeave trail (padded fill trail.greatest (fold (laid_by image) trail.synced writes))
padded_left image fill trail writes were small =
    let bytes = fold (laid_by image) trail.synced writes in
    let size = length-padded fill trail.greatest bytes in
    record {
      least = omega (arith, size, were.least, were.greatest);
      greatest = omega (arith, size);
      kept = λ place within inside out.
          let keeps = were.kept image place inside out in
          get_or-take trail.greatest (bytes ++ replicate trail.greatest fill) place 0 (omega (arith, size, within))
          ∙ (get_or_append_left bytes (replicate trail.greatest fill) 0 place (omega (arith, inside, keeps.longer))
          ∙ keeps.same);
      small = small;
    }

-- a crash may leave each of the images
pub crash_image-left : (image : CrashImage) (log : List Change) (file : FileId) → AreBytes (crash_image image log file)
    → MayLeave (trail_in log file) (crash_image image log file)
crash_image-left AsBefore log file small =
    front_left (trail_in log file) (unsynced log file) (unsynced-are_of log file) small
crash_image-left AsWritten log file small =
    padded_left AsWritten 0 (trail_in log file) (unsynced log file) (unsynced-are_of log file) small
crash_image-left HalfWritten log file small =
    padded_left HalfWritten 0 (trail_in log file) (unsynced log file) (unsynced-are_of log file) small
crash_image-left AllOnes log file small =
    padded_left AllOnes 1 (trail_in log file) (unsynced log file) (unsynced-are_of log file) small

pub images_left : {E : Type 0} (image : CrashImage) (log : List Change) (file : FileId) (made : Result (List ℕ) E)
    → IfOk made (λ bytes. bytes ≡ crash_image image log file)
    → IfOk made (λ bytes. AreBytes bytes) → IfOk made (λ bytes. MayLeave (trail_in log file) bytes)
images_left image log file (Ok bytes) is small =
    subst (MayLeave (trail_in log file)) (sym is) (crash_image-left image log file (subst AreBytes is small))
images_left image log file (Err x) is small = tt

-- one change more
unsynced_on : (log : List Change) (file : FileId) (change : Change)
    → unsynced (log ++ change ∷ []) file ≡ unsynced_by file (unsynced log file) change
unfolding unsynced
unsynced_on log file change = fold_push (unsynced_by file) [] log change

-- what an image is made of, behind a change that makes this of the trail and the writes
remains_on : (image : CrashImage) (log : List Change) (file : FileId) (change : Change) (trail : Trail)
    (writes : List Write) (remains : Remains)
    → (changed_by (history_of log) change).newest file ≡ trail → unsynced_by file (unsynced log file) change ≡ writes
    → remains.bytes.items ≡ fold (laid_by image) trail.synced writes → remains.least ≡ trail.least
    → remains.greatest ≡ trail.greatest
    → AreRemains image (log ++ change ∷ []) file remains
remains_on image log file change trail writes remains changed unsynced_is bytes least greatest =
    let now : trail_in (log ++ change ∷ []) file ≡ trail =
    ap (λ (h : History FileId). h.newest file) (history_on log change) ∙ changed in
    let since : unsynced (log ++ change ∷ []) file ≡ writes = unsynced_on log file change ∙ unsynced_is in
    record {
      bytes = bytes ∙ sym (ap (λ (t : Trail). fold (laid_by image) t.synced (unsynced (log ++ change ∷ []) file)) now
          ∙ ap (λ ws. fold (laid_by image) trail.synced ws) since);
      least = least ∙ sym (ap (λ (t : Trail). t.least) now);
      greatest = greatest ∙ sym (ap (λ (t : Trail). t.greatest) now);
    }

other_trail : (file : FileId) (history : History FileId) (change : Change) → same_file file (file_of change) ≡ false
    → (changed_by history change).newest file ≡ history.newest file
other_trail file history (Written other at bytes) is = rw is
other_trail file history (Cut other size) is = rw is
other_trail file history (Synced other bytes) is = rw is

other_writes : (file : FileId) (writes : List Write) (change : Change) → same_file file (file_of change) ≡ false
    → unsynced_by file writes change ≡ writes
other_writes file writes (Written other at bytes) is = rw is
other_writes file writes (Cut other size) is = refl
other_writes file writes (Synced other bytes) is = rw is

-- a change of another file
pub remains_other : (image : CrashImage) (log : List Change) (file : FileId) (change : Change) (remains : Remains)
    → same_file file (file_of change) ≡ false
    → AreRemains image log file remains → AreRemains image (log ++ change ∷ []) file remains
remains_other image log file change remains is were =
    remains_on image log file change (trail_in log file) (unsynced log file) remains
    (other_trail file (history_of log) change is)
    (other_writes file (unsynced log file) change is) were.bytes were.least were.greatest

own_trail : (file other : FileId) (history : History FileId) (trail : Trail → Trail) → same_file file other ≡ true
    → (if same_file file other then trail (history.newest other) else history.newest file) ≡ trail (history.newest file)
own_trail file other history trail is =
    rw is (ap (λ (f : FileId). trail (history.newest f)) (sym (same_file-true file other is)))

-- a write to the file
pub remains_written : {E : Type 0} (image : CrashImage) (log : List Change) (file other : FileId) (at : ℕ)
    (bytes : List ℕ) (before now : Remains) (done : Result (Unit {0}) E)
    → same_file file other ≡ true
    → OnOk done (now.bytes.items ≡ laid_by image before.bytes.items (record { at = at; bytes = bytes }))
    → now.least ≡ before.least
    → OnOk done (now.greatest ≡ max before.greatest (at + length bytes)) → AreRemains image log file before
    → OnOk done (AreRemains image (log ++ Written other at bytes ∷ []) file now)
remains_written image log file other at bytes before now (Ok x) is laid least greatest were =
    let write : Write = record { at = at; bytes = bytes } in
    let trail = trail_in log file in
    remains_on image log file (Written other at bytes) (written_to at (length bytes) trail)
    (unsynced log file ++ write ∷ []) now
    (own_trail file other (history_of log) (written_to at (length bytes)) is) (rw is)
    (laid ∙ (ap (λ old. laid_by image old write) were.bytes
    ∙ sym (fold_push (laid_by image) trail.synced (unsynced log file) write)))
    (least ∙ were.least) (greatest ∙ ap (λ n. max n (at + length bytes)) were.greatest)
remains_written image log file other at bytes before now (Err x) is laid least greatest were = tt

-- a cut of the file
pub remains_cut : (image : CrashImage) (log : List Change) (file other : FileId) (size : ℕ) (before now : Remains)
    → same_file file other ≡ true
    → now.bytes.items ≡ before.bytes.items → now.least ≡ min before.least size → now.greatest ≡ before.greatest
    → AreRemains image log file before
    → AreRemains image (log ++ Cut other size ∷ []) file now
remains_cut image log file other size before now is same least greatest were =
    remains_on image log file (Cut other size) (cut_to size (trail_in log file)) (unsynced log file) now
    (own_trail file other (history_of log) (cut_to size) is) refl
    (same ∙ were.bytes) (least ∙ ap (λ n. min n size) were.least) (greatest ∙ were.greatest)

-- a sync of the file
pub remains_synced : {E : Type 0} (image : CrashImage) (log : List Change) (file other : FileId) (bytes : List ℕ)
    (now : Remains) (done : Result (Unit {0}) E)
    → same_file file other ≡ true → OnOk done (now.bytes.items ≡ bytes) → OnOk done (now.least ≡ length bytes)
    → OnOk done (now.greatest ≡ length bytes)
    → OnOk done (AreRemains image (log ++ Synced other bytes ∷ []) file now)
remains_synced image log file other bytes now (Ok x) is same least greatest =
    remains_on image log file (Synced other bytes) (at_rest bytes) [] now
    (own_trail file other (history_of log) (λ _. at_rest bytes) is) (rw is) same least greatest
remains_synced image log file other bytes now (Err x) is same least greatest = tt

-- before the first change
pub remains_first : (image : CrashImage) (file : FileId) (remains : Remains) → remains.bytes.items ≡ []
    → remains.least ≡ 0 → remains.greatest ≡ 0
    → AreRemains image [] file remains
unfolding history_of unsynced
remains_first image file remains bytes least greatest = record { bytes = bytes; least = least; greatest = greatest }

-- the bytes of the image in which no write was done
pub remains-as_before : (log : List Change) (file : FileId) (remains : Remains) → AreRemains AsBefore log file remains
    → take remains.least remains.bytes.items ≡ crash_image AsBefore log file
remains-as_before log file remains were =
    ap (λ n. take n remains.bytes.items) were.least
    ∙ ap (take (trail_in log file).least) (were.bytes ∙ fold-as_before (trail_in log file).synced (unsynced log file))
