-- The plain values of a track's facts, and the rules that they keep.
use Rattle.std.specs.Prelude.{◌≡◌, ℕ, ◌≤◌, ◌<◌, List, length, IsTrue, All}
use Rattle.film_project.specs.Facts.{ProjectFacts}
use Rattle.film_project.specs.Members.{is_frame_rate}
use Rattle.film_project.specs.Texts.{keeps}
use Rattle.film_project.specs.declared.text_rule.TextRule.TheVariants.{Issued}
use Rattle.track_terms.specs.declared.kind.TrackKind.{TrackKind}

pub record PlainFacts : Type 0 where
  pub kind : TrackKind
  pub name : List ℕ
  pub namespace : List ℕ
  pub asset : List ℕ
  pub issued : List ℕ
  pub fps : ℕ
  pub frames : ℕ
  pub width : ℕ
  pub height : ℕ
  pub channels : ℕ

-- of the track of this name and kind in a project's package, where the asset has this UUID
abbrev pub of_project : ProjectFacts → TrackKind → List ℕ → List ℕ → PlainFacts
of_project project kind name asset = record {
  kind = kind;
  name = name;
  namespace = project.namespace;
  asset = asset;
  issued = project.issued;
  fps = project.fps;
  frames = project.frames;
  width = project.width;
  height = project.height;
  channels = project.channels;
}

-- what is also said of a project's members keeps their rules
pub record IsTrack (facts : PlainFacts) : Type 0 where
  pub namespace_length : length facts.namespace ≡ 16
  pub namespace_bytes : All (λ b. b < 256) facts.namespace
  pub asset_length : length facts.asset ≡ 16
  pub asset_bytes : All (λ b. b < 256) facts.asset
  pub issued_kept : IsTrue (keeps Issued facts.issued)
  pub fps_known : IsTrue (is_frame_rate facts.fps)
  pub some_frames : 1 ≤ facts.frames
  pub most_frames : facts.frames ≤ 432000
  pub least_width : 32 ≤ facts.width
  pub most_width : facts.width ≤ 2048
  pub least_height : 32 ≤ facts.height
  pub most_height : facts.height ≤ 1080
  pub most_channels : facts.channels ≤ 16
