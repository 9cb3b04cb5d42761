-- What contracts see of a project and of its parts: their plain values.
use Rattle.film_project.specs.Facts.{AssetFacts, PictureFacts, GainFacts, SoundFacts, ProjectFacts}
use Rattle.film_project.specs.declared.asset.Asset.TheInside as asset
use Rattle.film_project.specs.declared.clip.Gain.TheInside as gain
use Rattle.film_project.specs.declared.clip.PictureClip.TheInside as picture
use Rattle.film_project.specs.declared.clip.SoundClip.TheInside as sound
use Rattle.film_project.specs.declared.project.Project.TheInside as project

abbrev pub asset_of : asset.Inside → AssetFacts
asset_of a = record { id = a.id; kind = a.kind; file = a.file; channels = a.channels }

abbrev pub picture_of : picture.Inside → PictureFacts
picture_of c = record { asset = c.asset; at = c.at; from = c.from; count = c.count; hold = c.hold }

abbrev pub gain_of : gain.Inside → GainFacts
gain_of g = record { from = g.from; to = g.to; gain = g.gain }

abbrev pub sound_of : sound.Inside → SoundFacts
sound_of c = record { asset = c.asset; at = c.at; from = c.from; count = c.count; gains = c.gains }

abbrev pub project_of : project.Inside → ProjectFacts
project_of p = record {
  title = p.title;
  kind = p.kind;
  issued = p.issued;
  namespace = p.namespace;
  width = p.width;
  height = p.height;
  fps = p.fps;
  rate = p.rate;
  power = p.power;
  channels = p.channels;
  frames = p.frames;
  assets = p.assets;
  picture = p.picture;
  sound = p.sound;
}
