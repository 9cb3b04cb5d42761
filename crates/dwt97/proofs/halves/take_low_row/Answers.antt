use Rattle.std.proofs.Common.{rules, arith, length, ◌+◌, ◌*◌}
use Rattle.codec_terms.specs.Wavelet.{sample}
use Rattle.std.specs.Int.{w32}
use Rattle.std.proofs.lemmas.Int.{to_z-of_z}
use Rattle.wave_laws.specs.Rows.{low_factor}
use Rattle.dwt97.proofs.Made.{IsMadeTo-more, scaled-stored, even-all, even-last, odd-all}
use Rattle.dwt97.proofs.halves.take_low_row.Goals as goal

pub loop-i-preserved : goal.loop-i-preserved
loop-i-preserved c = (
  IsMadeTo-more _ _ _ _ _ _ (omega arith) c.loop-i.invariant.0 (scaled-stored low_factor _ _ _ _ c.low.ensures (to_z-of_z w32 _ (search rules)) (to_z-of_z w32 (sample c.args.row.now (2 * c.loop-i.i)) (search rules))),
  IsMadeTo-more _ _ _ _ _ _ (omega arith) c.loop-i.invariant.1 (scaled-stored low_factor _ _ _ _ c.low-in-loop-i.ensures (to_z-of_z w32 _ (search rules)) (to_z-of_z w32 (sample c.args.row.now (2 * c.loop-i.i + 1)) (search rules))),
)

pub returns-then-last-even-clause-even : goal.returns-then-last-even-clause-even
returns-then-last-even-clause-even c =
    even-last low_factor c.loop-i.i (length c.loop-i.odd) _ _ _ _ (omega arith) (omega arith) (omega arith) c.loop-i.invariant.0
    (scaled-stored low_factor _ _ _ _ c.low-then-last-even.ensures (to_z-of_z w32 _ (search rules)) (to_z-of_z w32 (sample c.args.row.now (2 * length c.loop-i.odd)) (search rules)))

pub returns-then-last-even-clause-odd : goal.returns-then-last-even-clause-odd
returns-then-last-even-clause-odd c = odd-all low_factor c.loop-i.i _ _ _ (omega arith) (omega arith) c.loop-i.invariant.1

pub returns-else-last-even-clause-even : goal.returns-else-last-even-clause-even
returns-else-last-even-clause-even c = even-all low_factor c.loop-i.i _ _ _ (omega arith) (omega arith) c.loop-i.invariant.0

pub returns-else-last-even-clause-odd : goal.returns-else-last-even-clause-odd
returns-else-last-even-clause-odd c = odd-all low_factor c.loop-i.i _ _ _ (omega arith) (omega arith) c.loop-i.invariant.1
