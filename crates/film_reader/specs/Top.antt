-- What the top object has.
use Rattle.std.specs.Prelude.{◌≡◌, ◌≤◌, ◌<◌, codes, map, length, All, IsTrue}
use Rattle.serde_json.specs.Data.{Data}
use Rattle.serde_json.specs.View.{view}
use Rattle.film_project.specs.Accepts.{namespace_in}
use Rattle.film_project.specs.Members.{is_frame_rate, number_in, text_in, list_in}
use Rattle.film_project.specs.Texts.{keeps}
use Rattle.film_reader.specs.declared.read.Format.{Format}
use Rattle.film_reader.specs.declared.read.Lists.{Lists}
use Rattle.film_reader.specs.declared.read.Titles.{Titles}
use Rattle.film_project.specs.declared.text_rule.TextRule.TheVariants as rule

pub record AreTitles (t : Titles) (d : Data) : Type 0 where
  pub title : t.title.now ≡ text_in (codes "title") d
  pub kind : t.kind.now ≡ text_in (codes "kind") d
  pub issued : t.issued.now ≡ text_in (codes "issued") d
  pub namespace : t.namespace ≡ namespace_in d
  pub title_kept : IsTrue (keeps rule.Title t.title.now)
  pub kind_kept : IsTrue (keeps rule.ContentKind t.kind.now)
  pub issued_kept : IsTrue (keeps rule.Issued t.issued.now)
  pub namespace_length : length t.namespace ≡ 16
  pub namespace_bytes : All (λ b. b < 256) t.namespace

pub record IsFormat (f : Format) (d : Data) : Type 0 where
  pub width : f.width ≡ number_in (codes "width") 0 d
  pub height : f.height ≡ number_in (codes "height") 0 d
  pub fps : f.fps ≡ number_in (codes "fps") 0 d
  pub rate : f.rate ≡ number_in (codes "rate") 0 d
  pub power : f.power ≡ number_in (codes "power") 0 d
  pub channels : f.channels ≡ number_in (codes "channels") 0 d
  pub frames : f.frames ≡ number_in (codes "frames") 0 d
  pub least_width : 32 ≤ f.width
  pub most_width : f.width ≤ 2048
  pub least_height : 32 ≤ f.height
  pub most_height : f.height ≤ 1080
  pub fps_known : IsTrue (is_frame_rate f.fps)
  pub least_rate : 10 ≤ f.rate
  pub most_rate : f.rate ≤ 250
  pub least_power : 11 ≤ f.power
  pub most_power : f.power ≤ 13
  pub most_channels : f.channels ≤ 16
  pub some_frames : 1 ≤ f.frames
  pub most_frames : f.frames ≤ 432000

pub record AreLists (l : Lists) (d : Data) : Type 0 where
  pub assets : map view l.assets.now ≡ list_in (codes "assets") d
  pub picture : map view l.picture.now ≡ list_in (codes "picture") d
  pub sound : map view l.sound.now ≡ list_in (codes "sound") d
  pub most_assets : length l.assets.now ≤ 1000
  pub most_picture : length l.picture.now ≤ 1000
  pub most_sound : length l.sound.now ≤ 1000
