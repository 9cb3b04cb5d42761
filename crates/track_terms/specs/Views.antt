-- What contracts see of a track's facts.
use Rattle.track_terms.specs.Facts.{PlainFacts}
use Rattle.track_terms.specs.declared.facts.TrackFacts.TheInside as inner

abbrev pub facts_of : inner.Inside → PlainFacts
facts_of f = record {
  kind = f.kind;
  name = f.name;
  namespace = f.namespace;
  asset = f.asset;
  issued = f.issued;
  fps = f.fps;
  frames = f.frames;
  width = f.width;
  height = f.height;
  channels = f.channels;
}
