-- The status of each ending.
use Rattle.std.specs.Prelude.{◌≡◌, ◌⊎◌, Result, Ok, Err}
use Rattle.film_inputs.specs.declared.ends.InputEnd.{InputEnd}
use Rattle.film_inputs.specs.declared.ends.InputEnd.TheVariants as input
use Rattle.film_inputs.specs.declared.ends.PlanEnd.{PlanEnd}
use Rattle.film_inputs.specs.declared.ends.PlanEnd.TheVariants as of_plan
use Rattle.film_plan.specs.declared.refusal.PlanRefusal.{PlanRefusal}
use Rattle.film_plan.specs.declared.refusal.PlanRefusal.TheVariants as short
use Rattle.film_project.specs.declared.refusal.ProjectRefusal.{ProjectRefusal}
use Rattle.film_project.specs.declared.refusal.ProjectRefusal.TheVariants as project
use Rattle.make_engine.specs.declared.outcome.MakeEnd.{MakeEnd}
use Rattle.make_engine.specs.declared.outcome.MakeEnd.TheVariants as of_make
use Rattle.pcm_mix.specs.declared.refusal.SoundRefusal.{SoundRefusal}
use Rattle.pcm_mix.specs.declared.refusal.SoundRefusal.TheVariants as of_mix
use Rattle.picture_track.specs.declared.outcome.FrameEnd.{FrameEnd}
use Rattle.picture_track.specs.declared.outcome.FrameEnd.TheVariants as of_frame
use Rattle.picture_track.specs.declared.outcome.PictureEnd.{PictureEnd}
use Rattle.picture_track.specs.declared.outcome.PictureEnd.TheVariants as of_picture
use Rattle.sound_track.specs.declared.end.SoundEnd.{SoundEnd}
use Rattle.sound_track.specs.declared.end.SoundEnd.TheVariants as of_sound
use Rattle.stream_inspect.specs.declared.ends.InspectEnd.{InspectEnd}
use Rattle.stream_inspect.specs.declared.ends.InspectEnd.TheVariants as of_read
use Rattle.track_file.specs.declared.end.TrackEnd.{TrackEnd}
use Rattle.track_file.specs.declared.end.TrackEnd.TheVariants as of_track
use Rattle.dcp_commands.specs.declared.stopped.Stopped.{Stopped}
use Rattle.dcp_commands.specs.declared.stopped.Stopped.TheVariants as stop
use Rattle.dcp_commands.specs.declared.status.Status.{Status}
use Rattle.dcp_commands.specs.declared.status.Status.TheVariants.{Done, Usage, ProjectRefused, InputMissing, InputShort, SourceFault, StoreFault, SinkFault, NoMemory, BadFrame, NoSuchFrame, BadStream, InputTooLong}

abbrev pub input_status : InputEnd → Status
input_status (input.Missing name) = InputMissing name
input_status input.SourceFault = SourceFault
input_status input.NoMemory = NoMemory

abbrev pub refused_status : ProjectRefusal → Status
refused_status project.NoMemory = NoMemory
refused_status refusal = ProjectRefused refusal

abbrev pub short_status : PlanRefusal → Status
short_status (short.InputShort asset size need) = InputShort asset size need
short_status short.NoMemory = NoMemory

abbrev pub plan_status : PlanEnd → Status
plan_status (of_plan.Input end) = input_status end
plan_status (of_plan.Project refusal) = refused_status refusal
plan_status (of_plan.Plan refusal) = short_status refusal

abbrev pub frame_status : FrameEnd → Status
frame_status (of_frame.Missing name) = InputMissing name
frame_status (of_frame.Bad frame why) = BadFrame frame why
frame_status of_frame.SourceFault = SourceFault
frame_status of_frame.NoMemory = NoMemory

abbrev pub track_status : TrackEnd → Status
track_status of_track.StoreFault = StoreFault
track_status of_track.NoMemory = NoMemory

abbrev pub picture_status : PictureEnd → Status
picture_status (of_picture.Frame end) = frame_status end
picture_status (of_picture.Track end) = track_status end
picture_status of_picture.NoMemory = NoMemory

abbrev pub mix_status : SoundRefusal → Status
mix_status of_mix.SourceFault = SourceFault
mix_status of_mix.NoMemory = NoMemory

abbrev pub sound_status : SoundEnd → Status
sound_status (of_sound.Sound refusal) = mix_status refusal
sound_status (of_sound.Track end) = track_status end

abbrev pub make_status : MakeEnd → Status
make_status (of_make.Picture end) = picture_status end
make_status (of_make.Sound end) = sound_status end
make_status of_make.NoMemory = NoMemory

abbrev pub read_status : InspectEnd → Status
read_status (of_read.Missing name) = InputMissing name
read_status (of_read.TooLong size) = InputTooLong size
read_status (of_read.Bad refusal) = BadStream refusal
read_status of_read.Fault = SourceFault
read_status of_read.NoMemory = NoMemory

abbrev pub stopped_status : Stopped → Status
stopped_status stop.Usage = Usage
stopped_status (stop.Plan end) = plan_status end
stopped_status (stop.Make end) = make_status end
stopped_status (stop.Read end) = read_status end
stopped_status (stop.Frame end) = frame_status end
stopped_status (stop.NoSuchFrame frame frames) = NoSuchFrame frame frames
stopped_status stop.NoMemory = NoMemory

-- the status of an outcome
abbrev pub status_of : {T : Type 0} → Result T Stopped → Status
status_of (Ok made) = Done
status_of (Err stopped) = stopped_status stopped

-- the answer, but where printing failed, and for want of memory
abbrev pub Answers : Status → Status → Type 0
Answers result status = (result ≡ status) ⊎ (result ≡ SinkFault) ⊎ (result ≡ NoMemory)
