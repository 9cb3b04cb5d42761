-- How a volume in memory keeps its history.
use Rattle.std.proofs.Common.{◌≡◌, ◌≢◌, ℕ, ◌+◌, ◌≤◌, ◌<◌, get_or, Bool, true, false, List, [], ◌∷◌, ◌++◌, length, take, refl, sym, ◌∙◌, ap, subst, arith}
use Rattle.std.proofs.lemmas.List.Sums.{fold_push}
use Rattle.std.proofs.lemmas.List.{get_or-take, length-take, take_all}
use Rattle.std.proofs.lemmas.List.Elements.{All-from_get_or, All-take}
use Rattle.std.specs.Prelude.{min, if◌then◌else◌, Result, Ok, Err, OnOk, OnErr}
use Rattle.disk_terms.specs.Disk.{History, Image, IsChanged, IsCutWithin, IsImage, IsRested, IsUntouchedBeside, MayLeave, Trail, cut_to, written_to}
use Rattle.disk_terms.proofs.Untouched.{IsUntouchedBeside-changed, IsUntouchedBeside-rested}
use Rattle.disk_terms.proofs.Writes.{overwritten-left}
use Rattle.mast_world.specs.Changes.{Only}
use Rattle.mast_world.specs.Content.{overwritten}
use Rattle.mast_world.specs.FileEntry.{same_file}
use Rattle.mast_world.specs.Log.{changed_by, history_of, nothing_there, with_trail}
use Rattle.mast_world.specs.declared.change.Change.{Change}
use Rattle.mast_world.specs.declared.volume.FileId.{FileId}
use Rattle.mast_world.proofs.SameFile.{same_file-refl, same_file-true}

-- a change that has this trail
pub is_changed : (file : FileId) (trail : Trail) (before : History FileId) → IsChanged file trail before (with_trail file trail before)
is_changed file trail before =
    let pick : Bool → Trail → Trail = λ b old. if b then trail else old in
    let other_is : (other : FileId) (b : Bool) → same_file other file ≡ b → other ≢ file → pick b (before.newest other) ≡ before.newest other =
    λ other. elim [ true ↦ λ is not. absurd (not (same_file-true other file is)) | false ↦ λ _ _. refl ] in
    record {
      changed = ap (λ b. pick b (before.newest file)) (same_file-refl file);
      others = λ other not. other_is other (same_file other file) refl not;
      earlier = refl;
    }

-- one change more
pub history_on : (log : List Change) (change : Change) → history_of (log ++ change ∷ []) ≡ changed_by (history_of log) change
unfolding history_of
history_on log change = fold_push changed_by nothing_there log change

-- the pushed change has this trail
pub pushed : (file : FileId) (trail : Trail) (log now : List Change) (change : Change) → now ≡ log ++ change ∷ []
    → changed_by (history_of log) change ≡ with_trail file trail (history_of log) → IsChanged file trail (history_of log) (history_of now)
pushed file trail log now change is by =
    subst (λ now. IsChanged file trail (history_of log) now) (sym (ap history_of is ∙ (history_on log change ∙ by))) (is_changed file trail (history_of log))

-- a change or none leaves the other files alone
pub beside_noted : {T E : Type 0} (file : FileId) (trail : Trail) (before now : History FileId) (noted : Result T E) → OnOk noted (IsChanged file trail before now)
    → OnErr noted (IsRested before now) → IsUntouchedBeside (Only file) before now
beside_noted file trail before now (Ok x) changed rested = IsUntouchedBeside-changed (Only file) file trail before now refl changed
beside_noted file trail before now (Err x) changed rested = IsUntouchedBeside-rested (Only file) before now rested

-- of each file what reads give may be left, where that holds of the changed one
pub image_changed : (file : FileId) (trail : Trail) (before now : History FileId) (image image_now : Image FileId) → IsChanged file trail before now
    → MayLeave trail (image_now file) → ((other : FileId) → other ≢ file → image_now other ≡ image other) → IsImage before.newest image → IsImage now.newest image_now
image_changed file trail before now image image_now changed left others was = λ other. by_case other (same_file other file) refl
  where
    by_case : (other : FileId) (b : Bool) → same_file other file ≡ b → MayLeave (now.newest other) (image_now other)
    by_case other true here =
        subst (λ (f : FileId). MayLeave (now.newest f) (image_now f)) (sym (same_file-true other file here))
        (subst (λ trail. MayLeave trail (image_now file)) (sym changed.changed) left)
    by_case other false not =
        let beside : other ≢ file = λ is. cc (not, same_file-refl file, ap (λ f. same_file f file) is) in
        subst (λ trail. MayLeave trail (image_now other)) (sym (changed.others other beside))
        (subst (λ bytes. MayLeave (before.newest other) bytes) (sym (others other beside)) (was other))

pub not_written : (trail : Trail) (bytes : List ℕ) (at size : ℕ) → MayLeave trail bytes → MayLeave (written_to at size trail) bytes
not_written trail bytes at size left = grind arith

pub partly_cut : (trail : Trail) (bytes : List ℕ) (size longer : ℕ) → MayLeave trail bytes → size ≤ longer → MayLeave (cut_to size trail) (take longer bytes)
partly_cut trail bytes size longer left more =
    let same : length (take longer bytes) ≡ min longer (length bytes) = length-take longer bytes in
    record {
      least = omega (arith, same, left.least, more);
      greatest = omega (arith, same, left.greatest);
      kept = λ place within inside out.
          let before : place < longer = omega (arith, same, within) in
          let whole : place < length bytes = omega (arith, same, within) in
          get_or-take longer bytes place 0 before ∙ left.kept place whole inside out;
      small = All-take (λ byte. byte < 256) longer bytes left.small;
    }

-- what reads give may be left behind a change of the trail that leaves more, or behind none
pub image_noted : {T E : Type 0} (file : FileId) (trail : Trail) (before now : History FileId) (noted : Result T E) (image : Image FileId)
    → ((bytes : List ℕ) → MayLeave (before.newest file) bytes → MayLeave trail bytes) → OnOk noted (IsChanged file trail before now)
    → OnErr noted (IsRested before now) → IsImage before.newest image → IsImage now.newest image
image_noted file trail before now (Ok x) image more changed rested was =
    image_changed file trail before now image image changed (more (image file) (was file)) (λ _ _. refl) was
image_noted file trail before now (Err x) image more changed rested was = subst (λ (h : History FileId). IsImage h.newest image) (sym rested) was

-- what reads give behind a write that was done or not
pub written_left : {T E : Type 0} (trail : Trail) (old new now : List ℕ) (at : ℕ) (done : Result T E) → OnOk done (now ≡ overwritten old at new) → OnErr done (now ≡ old)
    → ((i : ℕ) → get_or new i 0 < 256) → at ≤ length old → MayLeave trail old → MayLeave (written_to at (length new) trail) now
written_left trail old new now at (Ok x) written unwritten small inside left =
    subst (MayLeave (written_to at (length new) trail)) (sym written)
    (overwritten-left trail old new at left (All-from_get_or (λ byte. byte < 256) new 0 (λ i _. small i)) inside)
written_left trail old new now at (Err x) written unwritten small inside left =
    subst (MayLeave (written_to at (length new) trail)) (sym unwritten) (not_written trail old at (length new) left)

-- what wasn't cut
pub not_cut : (size : ℕ) (bytes : List ℕ) → IsCutWithin size bytes bytes
not_cut size bytes = record {
  longer = size + length bytes;
  least = omega arith;
  kept = sym (take_all (size + length bytes) bytes (omega arith));
}

-- none of any ending
pub on_err : {T E : Type 0} {P : Type 0} (r : Result T E) → P → OnErr r P
on_err (Ok x) p = tt
on_err (Err x) p = p
