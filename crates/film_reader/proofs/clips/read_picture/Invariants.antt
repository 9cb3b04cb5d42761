use Rattle.std.proofs.Common.{◌≡◌, ◌++◌, map, drop, length, All}
use Rattle.film_project.specs.Accepts as spec
use Rattle.film_project.specs.Rules.{FitsPicture}
use Rattle.film_project.specs.Members.{first_of}
use Rattle.serde_json.specs.View.{view}
use Rattle.film_reader.proofs.clips.read_picture.Given as goal

abbrev pub invariant-loop-index : goal.invariant-loop-index
invariant-loop-index l = record {
  faultless : first_of (spec.picture_fault l.assets l.frames) 0 (map view l.items)
      ≡ first_of (spec.picture_fault l.assets l.frames) l.index (map view (drop l.index l.items));
  gathered : l.found ++ map (spec.picture_in l.assets) (map view (drop l.index l.items))
      ≡ map (spec.picture_in l.assets) (map view l.items);
  count : length l.found ≡ l.index;
  fit : All (FitsPicture l.frames l.assets) l.found;
}
