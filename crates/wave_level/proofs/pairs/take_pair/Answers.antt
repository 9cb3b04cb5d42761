use Rattle.std.proofs.Common.{◌+◌, ◌*◌, arith}
use Rattle.wave_level.proofs.Limits.{rows_inside, part_rows}
use Rattle.wave_level.proofs.Taken.{even_taken, odd_taken, odd_at}
use Rattle.wave_level.proofs.pairs.take_pair.Goals as goal

pub finish_even-requires-clause-plane : goal.finish_even-requires-clause-plane
finish_even-requires-clause-plane c = rows_inside c.args.level.columns c.args.level.rows (2 * c.args.j + 1) c.args.plane.now (omega arith) c.requires.whole

pub finish_odd-requires-clause-plane : goal.finish_odd-requires-clause-plane
finish_odd-requires-clause-plane c = rows_inside c.args.level.columns c.args.level.rows (2 * c.args.j + 2) c.args.plane.now (omega arith) c.requires.whole

pub returns-then-j-level : goal.returns-then-j-level
returns-then-j-level c = λ area g done so.
    let level = c.args.level in
    let j = c.args.j in
    let parts = part_rows level.columns level.rows area g in
    record {
      even = even_taken level j area c.args.plane.now _ _ _ _ (omega (arith, parts.ll)) (omega (arith, parts.hl)) done.even_row c.finish_even.ensures.low c.finish_even.ensures.words so.even;
      odd = odd_at level area _ _ (j + 1) _ (omega arith)
          (odd_taken level j area c.args.plane.now _ _ _ _ (omega (arith, parts.lh)) (omega (arith, parts.hh)) (done.odd_row c.if-j-level.true) c.finish_odd.ensures.low c.finish_odd.ensures.high
          (odd_at level area _ _ _ j (omega arith) so.odd));
    }

pub returns-else-j-level : goal.returns-else-j-level
returns-else-j-level c = λ area g done so.
    let level = c.args.level in
    let j = c.args.j in
    let parts = part_rows level.columns level.rows area g in
    record {
      even = even_taken level j area c.args.plane.now _ _ _ _ (omega (arith, parts.ll)) (omega (arith, parts.hl)) done.even_row c.finish_even.ensures.low c.finish_even.ensures.words so.even;
      odd = odd_at level area _ _ _ _ (omega arith) so.odd;
    }
