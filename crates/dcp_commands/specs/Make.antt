-- What `make` makes, and why it ends so, status by status.
use Rattle.std.specs.Prelude.{◌≡◌, ◌⊎◌, ℕ, ◌+◌, ◌<◌, List, length, IsOk, Option, Some, None, option_map, option_and_then, Result, Ok, Err, ⊤}
use Rattle.std.specs.Result.{result_ok}
use Rattle.disk_terms.specs.Disk.{History, IsImage}
use Rattle.film_project.specs.Facts.{ProjectFacts}
use Rattle.film_project.specs.Rules.{IsProject}
use Rattle.frame_values.specs.Causes.{AreEncodedFrames}
use Rattle.frame_values.specs.declared.ends.BadWhy.{BadWhy}
use Rattle.film_inputs.specs.Causes.{IsInputName, IsPlanCause}
use Rattle.film_inputs.specs.Inputs.{planned}
use Rattle.film_inputs.specs.declared.ends.PlanEnd.{PlanEnd}
use Rattle.make_engine.specs.Causes.{IsMakeCause, IsOutOfMemory}
use Rattle.make_engine.specs.Package.{AreTracks, ArePut, HasFiles, HasSound, PackageFiles, inputs_size, package_files}
use Rattle.make_engine.specs.declared.outcome.MakeEnd.{MakeEnd}
use Rattle.mast_world.specs.Changes.{IsUnwritten}
use Rattle.mast_world.specs.Content.{Files}
use Rattle.mast_world.specs.Count.{HasRisen, counted}
use Rattle.mast_world.specs.declared.volume.FileId.{FileId}
use Rattle.mast_world.specs.declared.volume.FileId.TheVariants as of
use Rattle.picture_track.specs.Causes.{IsBadFrame, IsMissingFrame}
use Rattle.dcp_commands.specs.Line.{done_text}
use Rattle.dcp_commands.specs.Status.{plan_status}
use Rattle.dcp_commands.specs.Words.{MakeWords, make_words}
use Rattle.dcp_commands.specs.declared.stopped.Stopped.{Stopped}
use Rattle.dcp_commands.specs.declared.stopped.Stopped.TheVariants as stop
use Rattle.dcp_commands.specs.declared.status.Status.{Status}
use Rattle.dcp_commands.specs.declared.status.Status.TheVariants.{Done, Usage, ProjectRefused, InputMissing, InputShort, SourceFault, StoreFault, SinkFault, NoMemory, BadFrame, NoSuchFrame, BadStream, InputTooLong}

-- ---- what the words and the files lead to

abbrev pub with_plan : Result ProjectFacts PlanEnd → Result ProjectFacts Status
with_plan (Err end) = Err (plan_status end)
with_plan (Ok project) = Ok project

abbrev pub with_words : Files → Option MakeWords → Result ProjectFacts Status
with_words files None = Err Usage
with_words files (Some asked) = with_plan (planned files asked.project)

-- the project that the words of `make` name, or how the command ends before a frame is read
abbrev pub checked : Files → List (List ℕ) → Result ProjectFacts Status
checked files words = with_words files (make_words words)

abbrev pub of_checked : Result ProjectFacts Status → Option ProjectFacts
of_checked (Ok project) = Some project
of_checked (Err status) = None

abbrev pub project_of : Files → List (List ℕ) → Option ProjectFacts
project_of files words = of_checked (checked files words)

-- the package that the words ask for
abbrev pub package_of : Files → List (List ℕ) → Option PackageFiles
package_of files words = option_and_then (λ project. result_ok (package_files files project)) (project_of files words)

abbrev pub frames_of : Files → List (List ℕ) → Option ℕ
frames_of files words = option_map (λ project. project.frames) (project_of files words)

-- the text of the project file that they name
abbrev pub text_of : Files → List (List ℕ) → Option (List ℕ)
text_of files words = option_and_then (λ asked. files asked.project) (make_words words)

-- how many bytes of input the package has: the project file, and those of frames and sound
abbrev pub input_size : Files → List (List ℕ) → Option ℕ
input_size files words =
    option_and_then (λ text. option_map (λ n. length text + n) (option_and_then (λ project. result_ok (inputs_size files project)) (project_of files words))) (text_of files words)

-- the package was made, and all its input was read
pub record IsPackage (volume_tells : Type 0) (files : Files) (words : List (List ℕ)) (reads : FileId → List ℕ) (taken_before taken_now : ℕ) : Type 0 where
  pub made : PackageFiles
  pub size : ℕ
  pub is : package_of files words ≡ Some made
  pub read : input_size files words ≡ Some size
  pub written : volume_tells → HasFiles made reads
  pub taken : taken_now ≡ counted taken_before size

-- each frame that was encoded is read back to its quantised coefficients down to the bit-planes that its cut keeps, within the limits
pub record HasEncodedFrames (files : Files) (words : List (List ℕ)) : Type 0 where
  pub project : ProjectFacts
  pub is : project_of files words ≡ Some project
  pub encoded : AreEncodedFrames files project

-- an image has the project's files as reads give them
pub record HasSameFiles (project : ProjectFacts) (reads image : FileId → List ℕ) : Type 0 where
  pub picture : image (of.Picture 1) ≡ reads (of.Picture 1)
  pub sound : HasSound project → image (of.Sound 1) ≡ reads (of.Sound 1)

-- whatever the source tells, the folder has the tracks of a project, that of the words where the source tells; so many
-- bytes were put into them, and each image that a crash may leave has them
pub record IsFolder (tells : Type 0) (files : Files) (words : List (List ℕ)) (reads : FileId → List ℕ) (put_before put_now : FileId → ℕ) (history : History FileId) : Type 0 where
  pub project : ProjectFacts
  pub rules : IsProject project
  pub told : tells → project_of files words ≡ Some project
  pub tracks : AreTracks project reads
  pub put : ArePut project reads put_before put_now
  pub on_disk : (image : FileId → List ℕ) → IsImage history.newest image → HasSameFiles project reads image

-- the files that `make` may touch
abbrev pub IsTrack : FileId → Type 0
IsTrack file = (file ≡ of.Picture 1) ⊎ (file ≡ of.Sound 1)

-- the text of `Done`: that of the project's frames, of which none was kept
pub record IsMadeText (tells : Type 0) (files : Files) (words : List (List ℕ)) (text : List ℕ) : Type 0 where
  pub frames : ℕ
  pub is : text ≡ done_text frames 0
  pub told : tells → frames_of files words ≡ Some frames

-- ---- causes

-- the words' project, or a single file of a project that keeps the rules
pub record IsNamedInput (words : List (List ℕ)) (name : List ℕ) : Type 0 where
  pub asked : MakeWords
  pub accepted : make_words words ≡ Some asked
  pub named : IsInputName asked.project name

-- a fresh frame of the project names a file that isn't there
pub record IsMissingInProject (tells : Type 0) (files : Files) (words : List (List ℕ)) (name : List ℕ) : Type 0 where
  pub project : ProjectFacts
  pub rules : IsProject project
  pub told : tells → checked files words ≡ Ok project
  pub missing : IsMissingFrame tells files project name

-- a fresh frame of the project breaks its form
pub record IsBadInProject (tells : Type 0) (files : Files) (words : List (List ℕ)) (frame : ℕ) (why : BadWhy) : Type 0 where
  pub project : ProjectFacts
  pub rules : IsProject project
  pub told : tells → checked files words ≡ Ok project
  pub bad : IsBadFrame tells files project frame why

-- Devices are given by what they tell and count, and by their states before and now.
module _ {A B : Type 0} (tells : Type 0) (files : Files) (words : List (List ℕ))
    (absent faults : A → ℕ) (before now : A)
    (store_tells : Type 0) (reads : B → FileId → List ℕ) (put : B → FileId → ℕ) (store_faults : B → ℕ) (history : B → History FileId) (volume volume_now : B) where
  -- before a frame is read it ends so, and nothing was written
  abbrev pub IsEarly : Status → Type 0
  IsEarly status = (tells → checked files words ≡ Err status) × IsUnwritten store_tells reads put history volume volume_now

  -- why `make` ended so; {C} is the sink
  abbrev pub IsCause : {C : Type 0} → (C → ℕ) → C → C → Status → Type 0
  IsCause sink_faults out out_now Done =
      (faults now ≡ faults before) × (store_faults volume_now ≡ store_faults volume) × (sink_faults out_now ≡ sink_faults out)
  IsCause sink_faults out out_now Usage = (make_words words ≡ None) × IsUnwritten store_tells reads put history volume volume_now
  IsCause sink_faults out out_now (ProjectRefused refusal) = IsEarly (ProjectRefused refusal)
  IsCause sink_faults out out_now (InputMissing name) =
      HasRisen (absent before) (absent now)
      × ((IsNamedInput words name × IsEarly (InputMissing name)) ⊎ IsMissingInProject tells files words name)
  IsCause sink_faults out out_now (InputShort asset size need) = (size < need) × IsEarly (InputShort asset size need)
  IsCause sink_faults out out_now SourceFault = HasRisen (faults before) (faults now)
  IsCause sink_faults out out_now StoreFault = HasRisen (store_faults volume) (store_faults volume_now)
  IsCause sink_faults out out_now SinkFault = HasRisen (sink_faults out) (sink_faults out_now)
  IsCause sink_faults out out_now NoMemory = ⊤
  IsCause sink_faults out out_now (BadFrame frame why) = IsBadInProject tells files words frame why
  IsCause sink_faults out out_now (NoSuchFrame frame frames) = ⊥
  IsCause sink_faults out out_now (BadStream refusal) = ⊥
  IsCause sink_faults out out_now (InputTooLong size) = ⊥

  -- the plan of the words' project ended so
  pub record IsPlanStop (end : PlanEnd) : Type 0 where
    pub asked : MakeWords
    pub accepted : make_words words ≡ Some asked
    pub cause : IsPlanCause tells files asked.project absent faults before now end
    pub unwritten : IsUnwritten store_tells reads put history volume volume_now

  -- the package of the words' project ended so
  pub record IsMakeStop (end : MakeEnd) : Type 0 where
    pub asked : MakeWords
    pub project : ProjectFacts
    pub accepted : make_words words ≡ Some asked
    pub rules : IsProject project
    pub told : tells → planned files asked.project ≡ Ok project
    pub cause : IsMakeCause tells files project absent faults before now store_tells reads put store_faults history volume volume_now end
    pub left : tells → IsOk (package_files files project) → ¬ HasRisen (faults before) (faults now)
        → ¬ HasRisen (store_faults volume) (store_faults volume_now) → IsOutOfMemory end

  -- why there is no text of `Done`
  abbrev pub IsStop : Stopped → Type 0
  IsStop stop.Usage = (make_words words ≡ None) × IsUnwritten store_tells reads put history volume volume_now
  IsStop (stop.Plan end) = IsPlanStop end
  IsStop (stop.Make end) = IsMakeStop end
  IsStop (stop.Read end) = ⊥
  IsStop (stop.Frame end) = ⊥
  IsStop (stop.NoSuchFrame frame frames) = ⊥
  IsStop stop.NoMemory = ⊤
