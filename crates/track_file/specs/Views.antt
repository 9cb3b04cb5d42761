-- What contracts see of a track file while it is written.
use Rattle.track_file.specs.TrackFile.{PlainTrack}
use Rattle.track_file.specs.declared.file.TrackFile.TheInside as inner

abbrev pub track_of : inner.Inside → PlainTrack
track_of t = record { facts = t.facts; file = t.file; places = t.places.items; place = t.place }
