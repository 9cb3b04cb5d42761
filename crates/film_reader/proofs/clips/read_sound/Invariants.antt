use Rattle.std.proofs.Common.{◌≡◌, ◌++◌, map, drop, length, All}
use Rattle.film_project.specs.Accepts as spec
use Rattle.film_project.specs.Rules.{FitsSound}
use Rattle.film_project.specs.Members.{first_of}
use Rattle.serde_json.specs.View.{view}
use Rattle.film_reader.proofs.clips.read_sound.Given as goal

abbrev pub invariant-loop-index : goal.invariant-loop-index
invariant-loop-index l = record {
  faultless : first_of (spec.sound_fault l.assets l.frames l.channels) 0 (map view l.items)
      ≡ first_of (spec.sound_fault l.assets l.frames l.channels) l.index (map view (drop l.index l.items));
  gathered : l.found ++ map (spec.sound_in l.assets) (map view (drop l.index l.items))
      ≡ map (spec.sound_in l.assets) (map view l.items);
  count : length l.found ≡ l.index;
  fit : All (FitsSound l.frames l.channels l.assets) l.found;
}
