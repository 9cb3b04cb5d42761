use Rattle.std.proofs.Common.{◌≡◌, ◌++◌, map, drop, length, codes}
use Rattle.film_reader.specs.Gains.{raw_facts}
use Rattle.film_project.specs.Members.{first_of, gain_kind_fault, gain_of}
use Rattle.film_project.specs.Names.{member_name}
use Rattle.serde_json.specs.View.{view}
use Rattle.film_reader.proofs.gains.read_raw_gains.Given as goal

abbrev pub invariant-loop-index : goal.invariant-loop-index
invariant-loop-index l = record {
  faultless : first_of (gain_kind_fault (member_name l.place (codes "gains"))) 0 (map view l.items)
      ≡ first_of (gain_kind_fault (member_name l.place (codes "gains"))) l.index (map view (drop l.index l.items));
  gathered : map raw_facts l.found.items ++ map gain_of (map view (drop l.index l.items)) ≡ map gain_of (map view l.items);
  count : length l.found.items ≡ l.index;
}
