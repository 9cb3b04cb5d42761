use Rattle.std.proofs.Common.{◌≡◌, ◌++◌, map, drop, length, codes, All}
use Rattle.film_project.specs.Rules.{FitsGain}
use Rattle.film_reader.specs.Gains.{raw_facts}
use Rattle.film_project.specs.Members.{first_of, gain_range_fault}
use Rattle.film_project.specs.Names.{member_name}
use Rattle.film_reader.proofs.gains.read_ranges.Given as goal

abbrev pub invariant-loop-index : goal.invariant-loop-index
invariant-loop-index l = record {
  faultless : first_of (gain_range_fault (member_name l.place (codes "gains")) l.inputs l.outputs) 0 (map raw_facts l.raw)
      ≡ first_of (gain_range_fault (member_name l.place (codes "gains")) l.inputs l.outputs) l.index (map raw_facts (drop l.index l.raw));
  gathered : l.found ++ map raw_facts (drop l.index l.raw) ≡ map raw_facts l.raw;
  count : length l.found ≡ l.index;
  fit : All (FitsGain l.inputs l.outputs) l.found;
}
