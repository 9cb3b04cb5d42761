-- How a run of `make` ends, from how its parts end.
use Rattle.std.proofs.Common.{◌≡◌, ◌≢◌, ℕ, ◌+◌, ◌≤◌, List, length, Some, None, Ok, Err, refl, inl, inr, ap, sym, subst, ◌∙◌, arith}
use Rattle.std.proofs.lemmas.Result.{IfErr-at_err}
use Rattle.std.specs.Result.{result_ok}
use Rattle.std.specs.Prelude.{◌⊎◌, IsOk, IsSome, IsSomeAnd, IfErr, OnOk, Option, Result}
use Rattle.film_project.specs.Facts.{ProjectFacts}
use Rattle.film_project.specs.declared.refusal.ProjectRefusal.{ProjectRefusal}
use Rattle.film_project.specs.declared.refusal.ProjectRefusal.TheVariants as project
use Rattle.film_plan.specs.declared.refusal.PlanRefusal.TheVariants as short
use Rattle.film_inputs.specs.Inputs.{planned}
use Rattle.film_inputs.specs.declared.ends.InputEnd.TheVariants as input
use Rattle.film_inputs.specs.declared.ends.PlanEnd.{PlanEnd}
use Rattle.film_inputs.specs.declared.ends.PlanEnd.TheVariants as of_plan
use Rattle.make_engine.proofs.Making.{sound_cause}
use Rattle.make_engine.specs.Causes.{IsMakeCause, IsOutOfMemory}
use Rattle.make_engine.specs.Package.{IsMade, package_files}
use Rattle.make_engine.specs.declared.outcome.MakeEnd.{MakeEnd}
use Rattle.make_engine.specs.declared.outcome.MakeEnd.TheVariants as of_make
use Rattle.make_engine.specs.declared.outcome.Report.{Report}
use Rattle.disk_terms.specs.Disk.{History}
use Rattle.mast_world.specs.Content.{Files}
use Rattle.mast_world.specs.Count.{HasRisen, counted}
use Rattle.mast_world.specs.declared.volume.FileId.{FileId}
use Rattle.pcm_mix.specs.declared.refusal.SoundRefusal.TheVariants as of_mix
use Rattle.picture_track.specs.Causes.{IsFrameCause}
use Rattle.picture_track.specs.declared.outcome.FrameEnd.{FrameEnd}
use Rattle.picture_track.specs.declared.outcome.FrameEnd.TheVariants as of_frame
use Rattle.picture_track.specs.declared.outcome.PictureEnd.{PictureEnd}
use Rattle.picture_track.specs.declared.outcome.PictureEnd.TheVariants as of_picture
use Rattle.sound_track.specs.declared.end.SoundEnd.{SoundEnd}
use Rattle.sound_track.specs.declared.end.SoundEnd.TheVariants as of_sound
use Rattle.track_file.proofs.Written.{counted-counted}
use Rattle.track_file.specs.declared.end.TrackEnd.TheVariants as of_track
use Rattle.stream_inspect.specs.declared.ends.InspectEnd.TheVariants as of_read
use Rattle.dcp_commands.specs.Make.{IsCause, IsMakeStop, IsPackage, IsPlanStop, IsStop, checked, frames_of, of_checked, package_of, project_of, text_of}
use Rattle.dcp_commands.specs.Status.{Answers, plan_status, refused_status, status_of, stopped_status}
use Rattle.dcp_commands.specs.Words.{MakeWords, make_words}
use Rattle.dcp_commands.specs.declared.stopped.Stopped.{Stopped}
use Rattle.dcp_commands.specs.declared.stopped.Stopped.TheVariants as stop
use Rattle.dcp_commands.specs.declared.status.Status.{Status}
use Rattle.dcp_commands.specs.declared.status.Status.TheVariants.{Done, Usage, ProjectRefused, SourceFault, SinkFault, NoMemory}

not_some : {A : Type 0} (o : Option A) → IsSome o → o ≡ None → ⊥
not_some None some none = absurd (cc)
not_some (Some a) some none = cc

ok_where : {T E : Type 0} (r : Result T E) → IsSome (result_ok r) → IsOk r
ok_where (Ok x) some = refl
ok_where (Err end) some = absurd (cc)

-- ---- what the words and the files lead to

pub checked_by : (files : Files) (words : List (List ℕ)) (asked : MakeWords) (project : ProjectFacts) → make_words words ≡ Some asked → planned files asked.project ≡ Ok project → checked files words ≡ Ok project
checked_by files words asked project accepted is = rw (accepted, is) refl

checked_ends : (files : Files) (words : List (List ℕ)) (asked : MakeWords) (end : PlanEnd) → make_words words ≡ Some asked → planned files asked.project ≡ Err end → checked files words ≡ Err (plan_status end)
checked_ends files words asked end accepted is = rw (accepted, is) refl

-- no words, no package
none_ends : (files : Files) (words : List (List ℕ)) → make_words words ≡ None → checked files words ≡ Err Usage
none_ends files words none = rw none refl

package_none : (files : Files) (words : List (List ℕ)) (status : Status) → checked files words ≡ Err status → IsSome (package_of files words) → ⊥
package_none files words status is some = not_some (package_of files words) some (rw is refl)

pub frames_are : (files : Files) (words : List (List ℕ)) (project : ProjectFacts) → checked files words ≡ Ok project → frames_of files words ≡ Some project.frames
frames_are files words project told = rw told refl

pub some_text : (o : Option (List ℕ)) (P : List ℕ → Type 0) → IsSomeAnd o P → (text : List ℕ) × (o ≡ Some text) × P text
some_text None P is = absurd is
some_text (Some text) P is = (text, refl, is)

-- the package of the words' project
pub packaged :
    (volume_tells : Type 0) (files : Files) (words : List (List ℕ)) (asked : MakeWords) (project : ProjectFacts) (text : List ℕ) (reads : FileId → List ℕ) (before between now : ℕ) →
    make_words words ≡ Some asked → checked files words ≡ Ok project → files asked.project ≡ Some text → between ≡ counted before (length text) →
    IsMade volume_tells files project reads between now → IsPackage volume_tells files words reads before now
packaged volume_tells files words asked project text reads before between now accepted told there first it =
    let of_text : text_of files words ≡ Some text = rw accepted there in
    let of_project : project_of files words ≡ Some project = ap of_checked told in
    record {
      made = it.made;
      size = length text + it.size;
      is = rw of_project (ap result_ok it.shown);
      read = rw (of_text, of_project, it.read) refl;
      written = it.written;
      taken = it.taken ∙ ap (λ n. counted n it.size) first ∙ counted-counted before (length text) it.size;
    }

-- ---- statuses of what stopped

abbrev IsOrdinary : Status → Type 0
IsOrdinary Done = ⊥
IsOrdinary SinkFault = ⊥
IsOrdinary status = Unit {0}

-- a refusal is want of memory, or has a status of its own
pub told_apart : (refusal : ProjectRefusal) → (refusal ≡ project.NoMemory) ⊎ ((refusal ≢ project.NoMemory) × (refused_status refusal ≡ ProjectRefused refusal))
told_apart project.NotJson = inr (λ e. cc, refl)
told_apart (project.NotObject name) = inr (λ e. cc, refl)
told_apart (project.MissingMember name) = inr (λ e. cc, refl)
told_apart (project.UnknownMember name) = inr (λ e. cc, refl)
told_apart (project.WrongKind name) = inr (λ e. cc, refl)
told_apart (project.OutOfRange name value) = inr (λ e. cc, refl)
told_apart (project.BadText name at) = inr (λ e. cc, refl)
told_apart (project.DoubleAsset name) = inr (λ e. cc, refl)
told_apart (project.NoSuchAsset name) = inr (λ e. cc, refl)
told_apart (project.TooLong frames) = inr (λ e. cc, refl)
told_apart (project.FileTooLong bytes) = inr (λ e. cc, refl)
told_apart project.NoMemory = inl refl

ordinary_refused : (refusal : ProjectRefusal) → IsOrdinary (refused_status refusal)
ordinary_refused refusal = elim (told_apart refusal) [
  | inl is ↦ subst (λ refusal. IsOrdinary (refused_status refusal)) (sym is) tt
  | inr other ↦ subst (λ status. IsOrdinary status) (sym other.1) tt
]

ordinary : (stopped : Stopped) → IsOrdinary (stopped_status stopped)
ordinary stop.Usage = tt
ordinary (stop.Plan (of_plan.Input (input.Missing name))) = tt
ordinary (stop.Plan (of_plan.Input input.SourceFault)) = tt
ordinary (stop.Plan (of_plan.Input input.NoMemory)) = tt
ordinary (stop.Plan (of_plan.Project refusal)) = ordinary_refused refusal
ordinary (stop.Plan (of_plan.Plan (short.InputShort asset size need))) = tt
ordinary (stop.Plan (of_plan.Plan short.NoMemory)) = tt
ordinary (stop.Make (of_make.Picture (of_picture.Frame (of_frame.Missing name)))) = tt
ordinary (stop.Make (of_make.Picture (of_picture.Frame (of_frame.Bad frame why)))) = tt
ordinary (stop.Make (of_make.Picture (of_picture.Frame of_frame.SourceFault))) = tt
ordinary (stop.Make (of_make.Picture (of_picture.Frame of_frame.NoMemory))) = tt
ordinary (stop.Make (of_make.Picture (of_picture.Track of_track.StoreFault))) = tt
ordinary (stop.Make (of_make.Picture (of_picture.Track of_track.NoMemory))) = tt
ordinary (stop.Make (of_make.Picture of_picture.NoMemory)) = tt
ordinary (stop.Make (of_make.Sound (of_sound.Sound of_mix.SourceFault))) = tt
ordinary (stop.Make (of_make.Sound (of_sound.Sound of_mix.NoMemory))) = tt
ordinary (stop.Make (of_make.Sound (of_sound.Track of_track.StoreFault))) = tt
ordinary (stop.Make (of_make.Sound (of_sound.Track of_track.NoMemory))) = tt
ordinary (stop.Make of_make.NoMemory) = tt
ordinary (stop.Read (of_read.Missing name)) = tt
ordinary (stop.Read (of_read.TooLong size)) = tt
ordinary (stop.Read (of_read.Bad refusal)) = tt
ordinary (stop.Read of_read.Fault) = tt
ordinary (stop.Read of_read.NoMemory) = tt
ordinary (stop.Frame (of_frame.Missing name)) = tt
ordinary (stop.Frame (of_frame.Bad frame why)) = tt
ordinary (stop.Frame of_frame.SourceFault) = tt
ordinary (stop.Frame of_frame.NoMemory) = tt
ordinary (stop.NoSuchFrame frame frames) = tt
ordinary stop.NoMemory = tt

pub never_done : (stopped : Stopped) → stopped_status stopped ≡ Done → ⊥
never_done stopped is = subst (λ s. IsOrdinary s) is (ordinary stopped)

-- ---- answers

-- a printed answer to what the words and inputs lead to
pub told_answer : (result status wanted : Status) → Answers result status → (status ≡ wanted) ⊎ (status ≡ SourceFault) ⊎ (status ≡ NoMemory) → (result ≡ SourceFault) ⊎ Answers result wanted
told_answer result status wanted (inl is) (inl same) = inr (inl (is ∙ same))
told_answer result status wanted (inl is) (inr (inl same)) = inl (is ∙ same)
told_answer result status wanted (inl is) (inr (inr same)) = inr (inr (inr (is ∙ same)))
told_answer result status wanted (inr (inl is)) told = inr (inr (inl is))
told_answer result status wanted (inr (inr is)) told = inr (inr (inr is))

-- a package has no early end
pub package_told : (volume_tells : Type 0) (files : Files) (words : List (List ℕ)) (reads : FileId → List ℕ) (before now : ℕ) (wanted : Status) → IsPackage volume_tells files words reads before now → checked files words ≡ Err wanted → ⊥
package_told volume_tells files words reads before now wanted it is =
    let none : package_of files words ≡ None = rw is refl in cc (none, it.is)

-- ---- causes

-- a frame's cause, as it is seen from an earlier state of the source
frame_cause :
    {A : Type 0} (tells : Type 0) (files : Files) (project : ProjectFacts) (absent faults : A → ℕ) (before between now : A) (end : FrameEnd) →
    absent before ≤ absent between → faults before ≤ faults between →
    IsFrameCause tells files project absent faults between now end → IsFrameCause tells files project absent faults before now end
frame_cause tells files project absent faults before between now (of_frame.Missing name) fewer less is = (is.0, omega (arith, is.1))
frame_cause tells files project absent faults before between now (of_frame.Bad f why) fewer less is = is
frame_cause tells files project absent faults before between now of_frame.SourceFault fewer less is = omega (arith, is)
frame_cause tells files project absent faults before between now of_frame.NoMemory fewer less is = tt

-- why no package was made, as it is seen from an earlier state of the source
pub make_cause :
    {A B : Type 0} (tells : Type 0) (files : Files) (project : ProjectFacts) (absent faults : A → ℕ) (before between now : A)
    (store_tells : Type 0) (reads : B → FileId → List ℕ) (put : B → FileId → ℕ) (store_faults : B → ℕ) (history : B → History FileId) (volume volume_now : B) (end : MakeEnd) →
    absent before ≤ absent between → faults before ≤ faults between →
    IsMakeCause tells files project absent faults between now store_tells reads put store_faults history volume volume_now end →
    IsMakeCause tells files project absent faults before now store_tells reads put store_faults history volume volume_now end
make_cause tells files project absent faults before between now store_tells reads put store_faults history volume volume_now (of_make.Picture (of_picture.Frame end)) fewer less is =
    frame_cause tells files project absent faults before between now end fewer less is
make_cause tells files project absent faults before between now store_tells reads put store_faults history volume volume_now (of_make.Picture (of_picture.Track end)) fewer less is = is
make_cause tells files project absent faults before between now store_tells reads put store_faults history volume volume_now (of_make.Picture of_picture.NoMemory) fewer less is = is
make_cause tells files project absent faults before between now store_tells reads put store_faults history volume volume_now (of_make.Sound end) fewer less is =
    (is.0, sound_cause faults before between now store_faults volume volume volume_now end less (omega arith) is.1)
make_cause tells files project absent faults before between now store_tells reads put store_faults history volume volume_now of_make.NoMemory fewer less is = is

-- where nothing else is in the way, want of memory is left, also as it is seen from an earlier state of the source
pub left_by :
    {A B : Type 0} (tells : Type 0) (files between_files : Files) (project : ProjectFacts) (faults : A → ℕ) (before between now : A)
    (store_faults : B → ℕ) (volume volume_now : B) (made : Result Report MakeEnd) (end : MakeEnd) →
    between_files ≡ files → faults before ≤ faults between → made ≡ Err end →
    (tells → IsOk (package_files between_files project) → ¬ HasRisen (faults between) (faults now) →
    ¬ HasRisen (store_faults volume) (store_faults volume_now) → IfErr made IsOutOfMemory) →
    tells → IsOk (package_files files project) → ¬ HasRisen (faults before) (faults now) →
    ¬ HasRisen (store_faults volume) (store_faults volume_now) → IsOutOfMemory end
left_by tells files between_files project faults before between now store_faults volume volume_now made end same less was complete told ok calm still =
    let seen : IsOk (package_files between_files project) = subst (λ files. IsOk (package_files files project)) (sym same) ok in
    let calmer : ¬ HasRisen (faults between) (faults now) = λ risen. calm (omega (arith, risen, less)) in
    IfErr-at_err IsOutOfMemory was (complete told seen calmer still)

module _ {A B C : Type 0} (tells : Type 0) (files : Files) (words : List (List ℕ)) (absent faults : A → ℕ) (before now : A)
    (store_tells : Type 0) (reads : B → FileId → List ℕ) (put : B → FileId → ℕ) (store_faults : B → ℕ) (history : B → History FileId) (volume volume_now : B) (sink_faults : C → ℕ) (out out_now : C) where
  abbrev Stops : Stopped → Type 0
  Stops = IsStop tells files words absent faults before now store_tells reads put store_faults history volume volume_now

  abbrev PlanStops : PlanEnd → Type 0
  PlanStops = IsPlanStop tells files words absent faults before now store_tells reads put store_faults history volume volume_now

  abbrev MakeStops : MakeEnd → Type 0
  MakeStops = IsMakeStop tells files words absent faults before now store_tells reads put store_faults history volume volume_now

  abbrev Causes : Status → Type 0
  Causes = IsCause tells files words absent faults before now store_tells reads put store_faults history volume volume_now sink_faults out out_now

  refused_cause : (refusal : ProjectRefusal) → PlanStops (of_plan.Project refusal) → Causes (refused_status refusal)
  refused_cause refusal is = elim (told_apart refusal) [
    | inl memory ↦ subst (λ refusal. Causes (refused_status refusal)) (sym memory) tt
    | inr other ↦ subst Causes (sym other.1)
        (λ told. checked_ends files words is.asked (of_plan.Project refusal) is.accepted (is.cause other.0 told) ∙ ap Err other.1, is.unwritten)
  ]

  checked_stop : (end : MakeEnd) → (is : MakeStops end) → tells → checked files words ≡ Ok is.project
  checked_stop end is told = checked_by files words is.asked is.project is.accepted (is.told told)

  make_stop : (end : MakeEnd) → MakeStops end → Causes (stopped_status (stop.Make end))
  make_stop (of_make.Picture (of_picture.Frame (of_frame.Missing name))) is = (
    is.cause.1,
    inr (record {
      project = is.project;
      rules = is.rules;
      told = checked_stop (of_make.Picture (of_picture.Frame (of_frame.Missing name))) is;
      missing = is.cause.0;
    }),
  )
  make_stop (of_make.Picture (of_picture.Frame (of_frame.Bad frame why))) is = record {
    project = is.project;
    rules = is.rules;
    told = checked_stop (of_make.Picture (of_picture.Frame (of_frame.Bad frame why))) is;
    bad = is.cause;
  }
  make_stop (of_make.Picture (of_picture.Frame of_frame.SourceFault)) is = is.cause
  make_stop (of_make.Picture (of_picture.Frame of_frame.NoMemory)) is = tt
  make_stop (of_make.Picture (of_picture.Track of_track.StoreFault)) is = is.cause
  make_stop (of_make.Picture (of_picture.Track of_track.NoMemory)) is = tt
  make_stop (of_make.Picture of_picture.NoMemory) is = tt
  make_stop (of_make.Sound (of_sound.Sound of_mix.SourceFault)) is = is.cause.1
  make_stop (of_make.Sound (of_sound.Sound of_mix.NoMemory)) is = tt
  make_stop (of_make.Sound (of_sound.Track of_track.StoreFault)) is = is.cause.1
  make_stop (of_make.Sound (of_sound.Track of_track.NoMemory)) is = tt
  make_stop of_make.NoMemory is = tt

  pub stop_cause : (stopped : Stopped) → Stops stopped → Causes (stopped_status stopped)
  stop_cause stop.Usage is = is
  stop_cause (stop.Plan (of_plan.Input (input.Missing name))) is = (
    is.cause.1,
    inl (
      record { asked = is.asked; accepted = is.accepted; named = is.cause.0.0 },
      (λ told. checked_ends files words is.asked (of_plan.Input (input.Missing name)) is.accepted (is.cause.0.1 told), is.unwritten),
    ),
  )
  stop_cause (stop.Plan (of_plan.Input input.SourceFault)) is = is.cause
  stop_cause (stop.Plan (of_plan.Input input.NoMemory)) is = tt
  stop_cause (stop.Plan (of_plan.Project refusal)) is = refused_cause refusal is
  stop_cause (stop.Plan (of_plan.Plan (short.InputShort asset size need))) is =
      (is.cause.0, (λ told. checked_ends files words is.asked (of_plan.Plan (short.InputShort asset size need)) is.accepted (is.cause.1 told), is.unwritten))
  stop_cause (stop.Plan (of_plan.Plan short.NoMemory)) is = tt
  stop_cause (stop.Make end) is = make_stop end is
  stop_cause (stop.Read end) is = absurd is
  stop_cause (stop.Frame end) is = absurd is
  stop_cause (stop.NoSuchFrame frame frames) is = absurd is
  stop_cause stop.NoMemory is = tt

  -- what is printed is answered
  pub answered : (result status : Status) → Answers result status → (result ≡ SinkFault → HasRisen (sink_faults out) (sink_faults out_now)) → Causes status → Causes result
  answered result status (inl is) risen cause = subst Causes (sym is) cause
  answered result status (inr (inl is)) risen cause = subst Causes (sym is) (risen is)
  answered result status (inr (inr is)) risen cause = subst Causes (sym is) tt

  -- where words and inputs end the command early
  abbrev Told : Status → Status → Type 0
  Told status wanted = (status ≡ wanted) ⊎ (status ≡ SourceFault) ⊎ (status ≡ NoMemory)

  early_told : (status first wanted : Status) → status ≡ first → checked files words ≡ Err first → checked files words ≡ Err wanted → Told status wanted
  early_told status first wanted same is wants = inl (cc (same, is, wants))

  refused_told : (refusal : ProjectRefusal) (wanted : Status) → (refusal ≢ project.NoMemory → checked files words ≡ Err (refused_status refusal)) → checked files words ≡ Err wanted → Told (refused_status refusal) wanted
  refused_told refusal wanted is wants = elim (told_apart refusal) [
    | inl memory ↦ inr (inr (ap refused_status memory))
    | inr other ↦ early_told _ _ wanted refl (is other.0) wants
  ]

  pub stop_told : (stopped : Stopped) (wanted : Status) → tells → Stops stopped → checked files words ≡ Err wanted → Told (stopped_status stopped) wanted
  stop_told stop.Usage wanted told is wants = early_told Usage Usage wanted refl (none_ends files words is.0) wants
  stop_told (stop.Plan (of_plan.Input (input.Missing name))) wanted told is wants =
      early_told _ _ wanted refl (checked_ends files words is.asked (of_plan.Input (input.Missing name)) is.accepted (is.cause.0.1 told)) wants
  stop_told (stop.Plan (of_plan.Input input.SourceFault)) wanted told is wants = inr (inl refl)
  stop_told (stop.Plan (of_plan.Input input.NoMemory)) wanted told is wants = inr (inr refl)
  stop_told (stop.Plan (of_plan.Project refusal)) wanted told is wants =
      refused_told refusal wanted (λ other. checked_ends files words is.asked (of_plan.Project refusal) is.accepted (is.cause other told)) wants
  stop_told (stop.Plan (of_plan.Plan (short.InputShort asset size need))) wanted told is wants =
      early_told _ _ wanted refl (checked_ends files words is.asked (of_plan.Plan (short.InputShort asset size need)) is.accepted (is.cause.1 told)) wants
  stop_told (stop.Plan (of_plan.Plan short.NoMemory)) wanted told is wants = inr (inr refl)
  stop_told (stop.Make end) wanted told is wants = absurd (cc (checked_stop end is told, wants))
  stop_told (stop.Read end) wanted told is wants = absurd is
  stop_told (stop.Frame end) wanted told is wants = absurd is
  stop_told (stop.NoSuchFrame frame frames) wanted told is wants = absurd is
  stop_told stop.NoMemory wanted told is wants = inr (inr refl)

  -- where there is a package and no count of faults rose, want of memory is left
  early_left : (first status : Status) → checked files words ≡ Err first → IsSome (package_of files words) → status ≡ NoMemory
  early_left first status is some = absurd (package_none files words first is some)

  refused_left : (refusal : ProjectRefusal) → (refusal ≢ project.NoMemory → checked files words ≡ Err (refused_status refusal)) → IsSome (package_of files words) → refused_status refusal ≡ NoMemory
  refused_left refusal is some = elim (told_apart refusal) [
    | inl memory ↦ ap refused_status memory
    | inr other ↦ early_left _ _ (is other.0) some
  ]

  picture_memory : (end : PictureEnd) → IsOutOfMemory (of_make.Picture end) → stopped_status (stop.Make (of_make.Picture end)) ≡ NoMemory
  picture_memory end (inl is) = ap (λ end. stopped_status (stop.Make (of_make.Picture end))) is
  picture_memory end (inr (inl is)) = ap (λ end. stopped_status (stop.Make (of_make.Picture end))) is
  picture_memory end (inr (inr is)) = ap (λ end. stopped_status (stop.Make (of_make.Picture end))) is

  sound_memory : (end : SoundEnd) → IsOutOfMemory (of_make.Sound end) → stopped_status (stop.Make (of_make.Sound end)) ≡ NoMemory
  sound_memory end (inl is) = ap (λ end. stopped_status (stop.Make (of_make.Sound end))) is
  sound_memory end (inr is) = ap (λ end. stopped_status (stop.Make (of_make.Sound end))) is

  memory_left : (end : MakeEnd) → IsOutOfMemory end → stopped_status (stop.Make end) ≡ NoMemory
  memory_left (of_make.Picture end) is = picture_memory end is
  memory_left (of_make.Sound end) is = sound_memory end is
  memory_left of_make.NoMemory is = refl

  make_left :
      (end : MakeEnd) → (is : MakeStops end) → tells → IsSome (package_of files words) → ¬ HasRisen (faults before) (faults now) →
      ¬ HasRisen (store_faults volume) (store_faults volume_now) → stopped_status (stop.Make end) ≡ NoMemory
  make_left end is told some calm still =
      let same : package_of files words ≡ result_ok (package_files files is.project) = rw (checked_stop end is told) refl in
      memory_left end (is.left told (ok_where (package_files files is.project) (subst (λ made. IsSome made) same some)) calm still)

  pub stop_left :
      (stopped : Stopped) → tells → IsSome (package_of files words) → ¬ HasRisen (faults before) (faults now) → ¬ HasRisen (store_faults volume) (store_faults volume_now) →
      Stops stopped → stopped_status stopped ≡ NoMemory
  stop_left stop.Usage told some calm still is = early_left Usage Usage (none_ends files words is.0) some
  stop_left (stop.Plan (of_plan.Input (input.Missing name))) told some calm still is =
      early_left _ _ (checked_ends files words is.asked (of_plan.Input (input.Missing name)) is.accepted (is.cause.0.1 told)) some
  stop_left (stop.Plan (of_plan.Input input.SourceFault)) told some calm still is = absurd (calm is.cause)
  stop_left (stop.Plan (of_plan.Input input.NoMemory)) told some calm still is = refl
  stop_left (stop.Plan (of_plan.Project refusal)) told some calm still is =
      refused_left refusal (λ other. checked_ends files words is.asked (of_plan.Project refusal) is.accepted (is.cause other told)) some
  stop_left (stop.Plan (of_plan.Plan (short.InputShort asset size need))) told some calm still is =
      early_left _ _ (checked_ends files words is.asked (of_plan.Plan (short.InputShort asset size need)) is.accepted (is.cause.1 told)) some
  stop_left (stop.Plan (of_plan.Plan short.NoMemory)) told some calm still is = refl
  stop_left (stop.Make end) told some calm still is = make_left end is told some calm still
  stop_left (stop.Read end) told some calm still is = absurd is
  stop_left (stop.Frame end) told some calm still is = absurd is
  stop_left (stop.NoSuchFrame frame frames) told some calm still is = absurd is
  stop_left stop.NoMemory told some calm still is = refl

  -- ---- what an outcome and its printed answer lead to

  abbrev Rose : Type 0
  Rose = HasRisen (sink_faults out) (sink_faults out_now)

  pub outcome_cause :
      {T : Type 0} (result : Status) (outcome : Result T Stopped) → Answers result (status_of outcome) →
      OnOk outcome (faults now ≡ faults before) → OnOk outcome (store_faults volume_now ≡ store_faults volume) → IfErr outcome Stops →
      (result ≡ SinkFault → Rose) → (result ≢ SinkFault → sink_faults out_now ≡ sink_faults out) → Causes result
  outcome_cause result (Ok x) (inl is) source store stops risen same = subst Causes (sym is) (source, store, same (λ fault. cc (is, fault)))
  outcome_cause result (Ok x) (inr (inl is)) source store stops risen same = subst Causes (sym is) (risen is)
  outcome_cause result (Ok x) (inr (inr is)) source store stops risen same = subst Causes (sym is) tt
  outcome_cause result (Err stopped) answer source store stops risen same =
      answered result (stopped_status stopped) answer risen (stop_cause stopped stops)

  pub outcome_told :
      {T : Type 0} (volume_tells : Type 0) (reads_now : FileId → List ℕ) (taken_before taken_now : ℕ) (result wanted : Status) (outcome : Result T Stopped) → tells → checked files words ≡ Err wanted →
      Answers result (status_of outcome) → OnOk outcome (IsPackage volume_tells files words reads_now taken_before taken_now) → IfErr outcome Stops →
      (result ≡ SourceFault) ⊎ Answers result wanted
  outcome_told volume_tells reads_now taken_before taken_now result wanted (Ok x) told wants answer made stops =
      absurd (package_told volume_tells files words reads_now taken_before taken_now wanted made wants)
  outcome_told volume_tells reads_now taken_before taken_now result wanted (Err stopped) told wants answer made stops =
      told_answer result (stopped_status stopped) wanted answer
      (stop_told stopped wanted told stops wants)

  pub outcome_left :
      {T : Type 0} (result : Status) (outcome : Result T Stopped) → tells → IsSome (package_of files words) → ¬ HasRisen (faults before) (faults now) →
      ¬ HasRisen (store_faults volume) (store_faults volume_now) → ¬ Rose → Answers result (status_of outcome) → (result ≡ SinkFault → Rose) → IfErr outcome Stops →
      (result ≡ Done) ⊎ (result ≡ NoMemory)
  outcome_left result (Ok x) told some calm still quiet (inl is) risen stops = inl is
  outcome_left result (Ok x) told some calm still quiet (inr (inl is)) risen stops = absurd (quiet (risen is))
  outcome_left result (Ok x) told some calm still quiet (inr (inr is)) risen stops = inr is
  outcome_left result (Err stopped) told some calm still quiet (inl is) risen stops =
      inr (is ∙ stop_left stopped told some calm still stops)
  outcome_left result (Err stopped) told some calm still quiet (inr (inl is)) risen stops = absurd (quiet (risen is))
  outcome_left result (Err stopped) told some calm still quiet (inr (inr is)) risen stops = inr is
