-- A package from its two files.
use Rattle.std.proofs.Common.{◌≡◌, ℕ, ◌+◌, ◌≤◌, Bool, true, false, List, Some, None, Ok, Err, inl, inr, refl, ap, sym, ◌∙◌, subst, arith}
use Rattle.std.proofs.lemmas.Bool.Decides.{nat_tests}
use Rattle.std.specs.Prelude.{if◌then◌else◌, nat_lt, IsOk, Result}
use Rattle.codec_terms.specs.Reading.{on_ok}
use Rattle.disk_terms.specs.Disk.{History, IsUntouchedBeside, at_rest}
use Rattle.disk_terms.proofs.Untouched.{IsUntouchedBeside-newest}
use Rattle.film_plan.specs.Plan.{ids_of}
use Rattle.film_project.specs.Facts.{ProjectFacts}
use Rattle.frame_values.specs.declared.ends.CellEnd.{CellEnd}
use Rattle.make_engine.specs.Causes.{IsSoundOutOfMemory}
use Rattle.make_engine.specs.Package.{ArePut, HasFiles, HasSound, IsFileOf, IsMade, IsSoundFile, PackageFiles}
use Rattle.make_engine.specs.Package.{package_files, sound_file, sounds_size, with_picture}
use Rattle.mast_world.proofs.Kept.{beside_kept_on, beside_kept_wider, risen_later}
use Rattle.mast_world.specs.Changes.{IsSameBeside, Only}
use Rattle.mast_world.specs.Content.{Files}
use Rattle.mast_world.specs.Count.{HasRisen, counted}
use Rattle.mast_world.specs.declared.volume.FileId.{FileId}
use Rattle.mast_world.specs.declared.volume.FileId.TheVariants.{Picture, Sound}
use Rattle.pcm_mix.specs.declared.refusal.SoundRefusal.TheVariants as of_mix
use Rattle.picture_track.specs.Picture.{HasFrameValues, IsPicture, picture_of, picture_put}
use Rattle.sound_track.specs.Causes.{IsSoundCause}
use Rattle.sound_track.specs.Sound.{sound_put}
use Rattle.sound_track.specs.declared.end.SoundEnd.{SoundEnd}
use Rattle.sound_track.specs.declared.end.SoundEnd.TheVariants as of_sound
use Rattle.track_file.proofs.Written.{counted-counted}
use Rattle.track_file.specs.declared.end.TrackEnd.TheVariants as of_track

-- ---- files

-- the picture file is no sound file
pub picture_apart : (project : ProjectFacts) → ¬ IsSoundFile project (Picture 1)
picture_apart project is = cc (is.1)

-- of the picture file's images what stood on the disk stands on it behind the sound file
pub rests_on : (project : ProjectFacts) (before now : History FileId) (old new : FileId → List ℕ) → IsUntouchedBeside (IsSoundFile project) before now
    → new (Picture 1) ≡ old (Picture 1) → before.newest (Picture 1) ≡ at_rest (old (Picture 1)) → now.newest (Picture 1) ≡ at_rest (new (Picture 1))
rests_on project before now old new untouched same rests =
    IsUntouchedBeside-newest (IsSoundFile project) before now untouched (Picture 1) (picture_apart project) ∙ rests ∙ ap at_rest (sym same)

-- what was touched behind both files, and behind the picture file
pub beside_picture :
    {A : Type 0} (project : ProjectFacts) (tells : Type 0) (reads : A → FileId → List ℕ) (put : A → FileId → ℕ) (faults : A → ℕ) (history : A → History FileId) (a b : A) →
    IsSameBeside (Only (Picture 1)) tells reads put faults history a b → IsSameBeside (IsFileOf project) tells reads put faults history a b
beside_picture project tells reads put faults history a b kept =
    beside_kept_wider (Only (Picture 1)) (IsFileOf project) tells reads put faults history a b (λ file is. inl is) kept

pub beside_both :
    {A : Type 0} (project : ProjectFacts) (tells : Type 0) (reads : A → FileId → List ℕ) (put : A → FileId → ℕ) (faults : A → ℕ) (history : A → History FileId) (a b c : A) →
    IsSameBeside (Only (Picture 1)) tells reads put faults history a b → IsSameBeside (IsSoundFile project) tells reads put faults history b c →
    IsSameBeside (IsFileOf project) tells reads put faults history a c
beside_both project tells reads put faults history a b c first later =
    beside_kept_on (IsFileOf project) tells reads put faults history a b c (beside_picture project tells reads put faults history a b first)
    (beside_kept_wider (IsSoundFile project) (IsFileOf project) tells reads put faults history b c (λ file is. inr is) later)

-- ---- what was made

has_files :
    (files : Files) (project : ProjectFacts) (reads : FileId → List ℕ) (picture : List ℕ) (b : Bool) → nat_lt 0 project.channels ≡ b →
    reads (Picture 1) ≡ picture → (HasSound project → reads (Sound 1) ≡ sound_file files project) →
    HasFiles (record { picture = picture; sound = if b then Some (sound_file files project) else None }) reads
has_files files project reads picture true test same sound = record {
  picture = same;
  sound = λ bytes is. sound (grind (arith, nat_tests, test)) ∙ cc;
}
has_files files project reads picture false test same sound = record { picture = same; sound = λ bytes is. absurd (cc) }

-- the sound was written behind the picture
pub made :
    (volume_tells : Type 0) (files : Files) (project : ProjectFacts) (asset : List ℕ) (old new : FileId → List ℕ) (before between now : ℕ) →
    asset ≡ (ids_of project).picture → IsPicture volume_tells files project asset (old (Picture 1)) before between → new (Picture 1) ≡ old (Picture 1) →
    (volume_tells → HasSound project → new (Sound 1) ≡ sound_file files project) → now ≡ counted between (sounds_size project) →
    IsMade volume_tells files project new before now
made volume_tells files project asset old new before between now id it same sound more = record {
  made = with_picture files project it.made;
  size = it.size + sounds_size project;
  shown = ap (λ asset. on_ok (picture_of files project asset) (λ picture. Ok (with_picture files project picture))) (sym id)
      ∙ ap (λ picture. on_ok picture (λ picture. Ok (with_picture files project picture))) it.shown;
  read = ap (λ frames. on_ok frames (λ n. Ok (n + sounds_size project))) it.read;
  written = λ told. has_files files project new it.made (nat_lt 0 project.channels) refl (same ∙ it.written told) (sound told);
  taken = more ∙ ap (λ n. counted n (sounds_size project)) it.taken ∙ counted-counted before it.size (sounds_size project);
}

-- the picture is the track of such values behind the sound file too
pub values_on : (project : ProjectFacts) (asset id old new : List ℕ) → asset ≡ id → new ≡ old → HasFrameValues project asset old → HasFrameValues project id new
values_on project asset id old new is same values =
    subst (λ asset. HasFrameValues project asset new) is (subst (HasFrameValues project asset) (sym same) values)

pub put_both :
    (project : ProjectFacts) (old new : FileId → List ℕ) (first between last : FileId → ℕ) →
    new (Picture 1) ≡ old (Picture 1) → last (Picture 1) ≡ between (Picture 1) → between (Sound 1) ≡ first (Sound 1) →
    between (Picture 1) ≡ counted (first (Picture 1)) (picture_put (old (Picture 1))) →
    (HasSound project → last (Sound 1) ≡ counted (between (Sound 1)) (sound_put project)) → ArePut project new first last
put_both project old new first between last same kept untouched picture sound = record {
  picture = kept ∙ picture ∙ ap (λ bytes. counted (first (Picture 1)) (picture_put bytes)) (sym same);
  sound = λ has. sound has ∙ ap (λ n. counted n (sound_put project)) untouched;
}

-- ---- why it wasn't

shown_there : (files : Files) (project : ProjectFacts) (shown : Result (List ℕ) CellEnd)
    → IsOk {T = PackageFiles} {E = CellEnd} (on_ok shown (λ picture. Ok (with_picture files project picture))) → IsOk shown
shown_there files project (Ok picture) is = refl
shown_there files project (Err end) is = absurd (cc)

-- a package has a picture file
pub picture_there : (files : Files) (project : ProjectFacts) (asset : List ℕ) → asset ≡ (ids_of project).picture
    → IsOk (package_files files project) → IsOk (picture_of files project asset)
picture_there files project asset id is =
    subst (λ asset. IsOk (picture_of files project asset)) (sym id) (shown_there files project (picture_of files project (ids_of project).picture) is)

-- why there is no sound file, as it is seen from an earlier state of the devices
pub sound_cause :
    {A B : Type 0} (faults : A → ℕ) (before between now : A) (store_faults : B → ℕ) (volume volume_between volume_now : B) (end : SoundEnd) →
    faults before ≤ faults between → store_faults volume ≤ store_faults volume_between →
    IsSoundCause faults between now store_faults volume_between volume_now end → IsSoundCause faults before now store_faults volume volume_now end
sound_cause faults before between now store_faults volume volume_between volume_now (of_sound.Sound of_mix.SourceFault) less fewer is =
    risen_later (faults before) (faults between) (faults now) less is
sound_cause faults before between now store_faults volume volume_between volume_now (of_sound.Sound of_mix.NoMemory) less fewer is = tt
sound_cause faults before between now store_faults volume volume_between volume_now (of_sound.Track of_track.StoreFault) less fewer is =
    risen_later (store_faults volume) (store_faults volume_between) (store_faults volume_now) fewer is
sound_cause faults before between now store_faults volume volume_between volume_now (of_sound.Track of_track.NoMemory) less fewer is = tt

-- where no count of faults rose, that is for want of memory
pub sound_left :
    {A B : Type 0} (faults : A → ℕ) (before now : A) (store_faults : B → ℕ) (volume volume_now : B) (end : SoundEnd) →
    ¬ HasRisen (faults before) (faults now) → ¬ HasRisen (store_faults volume) (store_faults volume_now) →
    IsSoundCause faults before now store_faults volume volume_now end → IsSoundOutOfMemory end
sound_left faults before now store_faults volume volume_now (of_sound.Sound of_mix.SourceFault) calm still is = absurd (calm is)
sound_left faults before now store_faults volume volume_now (of_sound.Sound of_mix.NoMemory) calm still is = inl refl
sound_left faults before now store_faults volume volume_now (of_sound.Track of_track.StoreFault) calm still is = absurd (still is)
sound_left faults before now store_faults volume volume_now (of_sound.Track of_track.NoMemory) calm still is = inr refl
