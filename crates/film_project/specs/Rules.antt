-- The rules that hold of each project and of its parts.
use Rattle.std.specs.Prelude.{◌≡◌, ◌≢◌, ℕ, ◌+◌, ◌≤◌, ◌<◌, List, length, IsTrue, All, AllPairs}
use Rattle.film_project.specs.Facts.{AssetFacts, PictureFacts, GainFacts, SoundFacts, ProjectFacts, nth_asset}
use Rattle.film_project.specs.Members.{is_frame_rate}
use Rattle.film_project.specs.Texts.{keeps}
use Rattle.film_project.specs.declared.asset.AssetKind.TheVariants.{Pcm24}
use Rattle.film_project.specs.declared.text_rule.TextRule.TheVariants.{Id, File, Title, ContentKind, Issued}

pub record IsAsset (asset : AssetFacts) : Type 0 where
  pub id_kept : IsTrue (keeps Id asset.id)
  pub file_kept : IsTrue (keeps File asset.file)
  pub most_channels : asset.channels ≤ 16
  pub some_channels : asset.kind ≡ Pcm24 → 1 ≤ asset.channels
  pub no_channels : asset.kind ≢ Pcm24 → asset.channels ≡ 0

-- ---- clips, by themselves

pub record IsPictureClip (clip : PictureFacts) : Type 0 where
  pub at_in_range : clip.at ≤ 431999
  pub from_in_range : clip.from ≤ 999999
  pub some_count : 1 ≤ clip.count
  pub most_count : clip.count ≤ 432000
  pub some_hold : 1 ≤ clip.hold
  pub most_hold : clip.hold ≤ 100

pub record IsGain (gain : GainFacts) : Type 0 where
  pub from_in_range : gain.from < 16
  pub to_in_range : gain.to < 16
  pub gain_in_range : gain.gain ≤ 262144

pub record IsSoundClip (clip : SoundFacts) : Type 0 where
  pub at_in_range : clip.at ≤ 431999
  pub from_in_range : clip.from ≤ 999999
  pub some_count : 1 ≤ clip.count
  pub most_count : clip.count ≤ 432000
  pub most_gains : length clip.gains ≤ 256

-- ---- clips in a project of so many frames and channels, and of these assets

-- the clip's asset is one of pictures, and the clip ends within the frames
pub record FitsPicture (frames : ℕ) (assets : List AssetFacts) (clip : PictureFacts) : Type 0 where
  pub rules : IsPictureClip clip
  pub there : clip.asset < length assets
  pub within : clip.at + clip.count ≤ frames
  pub shows : (nth_asset assets clip.asset).kind ≢ Pcm24

-- the gain takes a channel of the asset to one of the project
pub record FitsGain (inputs outputs : ℕ) (gain : GainFacts) : Type 0 where
  pub rules : IsGain gain
  pub from : gain.from < inputs
  pub to : gain.to < outputs

-- the clip's asset is one of sound, the clip ends within the frames, and its gains have channels that are there
pub record FitsSound (frames channels : ℕ) (assets : List AssetFacts) (clip : SoundFacts) : Type 0 where
  pub rules : IsSoundClip clip
  pub there : clip.asset < length assets
  pub within : clip.at + clip.count ≤ frames
  pub sounds : (nth_asset assets clip.asset).kind ≡ Pcm24
  pub gains : All (FitsGain (nth_asset assets clip.asset).channels channels) clip.gains

-- ---- the whole

pub record IsProject (project : ProjectFacts) : Type 0 where
  pub title_kept : IsTrue (keeps Title project.title)
  pub kind_kept : IsTrue (keeps ContentKind project.kind)
  pub issued_kept : IsTrue (keeps Issued project.issued)
  pub namespace_length : length project.namespace ≡ 16
  pub namespace_bytes : All (λ b. b < 256) project.namespace
  pub least_width : 32 ≤ project.width
  pub most_width : project.width ≤ 2048
  pub least_height : 32 ≤ project.height
  pub most_height : project.height ≤ 1080
  pub fps_known : IsTrue (is_frame_rate project.fps)
  pub least_rate : 10 ≤ project.rate
  pub most_rate : project.rate ≤ 250
  pub least_power : 11 ≤ project.power
  pub most_power : project.power ≤ 13
  pub most_channels : project.channels ≤ 16
  pub some_frames : 1 ≤ project.frames
  pub most_frames : project.frames ≤ 432000
  pub most_assets : length project.assets ≤ 1000
  pub most_picture : length project.picture ≤ 1000
  pub most_sound : length project.sound ≤ 1000
  pub distinct_ids : AllPairs (λ a b. a.id ≢ b.id) project.assets
  pub each_asset : All IsAsset project.assets
  pub picture_fits : All (FitsPicture project.frames project.assets) project.picture
  pub sound_fits : All (FitsSound project.frames project.channels project.assets) project.sound
