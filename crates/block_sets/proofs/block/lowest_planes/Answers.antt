use Rattle.std.proofs.Common.{◌<◌, ◌≤◌, [], length, sym, arith}
use Rattle.std.proofs.lemmas.List.{get_or-take, length-take-le}
use Rattle.block_sets.proofs.Counts.{values-below}
use Rattle.block_sets.proofs.Rebuilt.{block_of-is}
use Rattle.block_sets.proofs.block.lowest_planes.Goals as goal

pub returns-clause-planes : goal.returns-clause-planes
returns-clause-planes c = λ b e f g h count.
    let few : c.args.count ≤ length c.args.sets.now = omega (arith, c.requires.count) in
    let size = length-take-le c.args.count c.args.sets.now few in
    record {
      kind = sym e;
      width = sym f;
      height = sym g;
      whole = h.whole;
      signs = h.signs;
      each = λ p q.
          let within : p < c.args.count = omega (arith, q, size) in
          rw (get_or-take c.args.count c.args.sets.now p [] within) (h.each p (omega (arith, within, c.requires.count)));
      small = rw size (values-below b c.args.count h.small (omega (arith, count)));
    }

pub returns-clause-whole : goal.returns-clause-whole
returns-clause-whole c = λ b e f g h count. block_of-is b _ (returns-clause-planes c b e f g h count)

pub returns-clause-count : goal.returns-clause-count
returns-clause-count c =
    let few : c.args.count ≤ length c.args.sets.now = omega (arith, c.requires.count) in
    length-take-le c.args.count c.args.sets.now few
