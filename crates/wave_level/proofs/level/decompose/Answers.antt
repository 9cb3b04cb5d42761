use Rattle.std.proofs.Common.{arith, inr, refl}
use Rattle.codec_terms.specs.Grid.{grid_of}
use Rattle.dwt97.proofs.Sweep.{grid_made}
use Rattle.wave_level.proofs.Limits.{grid_clamped, liftable, even_bounded, odd_bounded}
use Rattle.wave_level.proofs.Taken.{pair_done, none_taken}
use Rattle.wave_level.proofs.Whole.{whole_low, whole_clamped, whole_hl, whole_lh, whole_hh}
use Rattle.wave_level.proofs.level.decompose.Goals as goal

pub loop-j-init : goal.loop-j-init
loop-j-init c =
    let level = c.args.level in
    let area = grid_of level.columns level.rows c.args.plane.now in
    let g = grid_clamped level.columns level.rows c.args.plane.now c.requires.whole c.requires.clamped in
    record {
      lifted = c.start.ensures area level.rows (liftable level.columns level.rows area g) g.size (omega arith) (inr refl) (grid_made level.columns level.rows c.args.plane.now);
      taken = none_taken level area c.args.low.now c.args.hl.now c.args.lh.now c.args.hh.now;
    }

pub take_pair-requires-clause-even : goal.take_pair-requires-clause-even
take_pair-requires-clause-even c =
    let level = c.args.level in
    let area = grid_of level.columns level.rows c.args.plane.now in
    let g = grid_clamped level.columns level.rows c.args.plane.now c.requires.whole c.requires.clamped in
    let lifted = c.round.ensures area level.rows (liftable level.columns level.rows area g) g.size (omega arith) (inr refl) c.loop-j.invariant.lifted in
    even_bounded level.columns level.rows c.loop-j.j area c.round.new.plane c.requires.least g
    (pair_done area level.columns level.rows level.rows c.loop-j.j c.round.new.plane (omega arith) (λ inside. inside) lifted)

pub take_pair-requires-clause-odd : goal.take_pair-requires-clause-odd
take_pair-requires-clause-odd c =
    let level = c.args.level in
    let area = grid_of level.columns level.rows c.args.plane.now in
    let g = grid_clamped level.columns level.rows c.args.plane.now c.requires.whole c.requires.clamped in
    let lifted = c.round.ensures area level.rows (liftable level.columns level.rows area g) g.size (omega arith) (inr refl) c.loop-j.invariant.lifted in
    odd_bounded level.columns level.rows c.loop-j.j area c.round.new.plane c.requires.least g
    (pair_done area level.columns level.rows level.rows c.loop-j.j c.round.new.plane (omega arith) (λ inside. inside) lifted)

pub loop-j-preserved : goal.loop-j-preserved
loop-j-preserved c =
    let level = c.args.level in
    let area = grid_of level.columns level.rows c.args.plane.now in
    let g = grid_clamped level.columns level.rows c.args.plane.now c.requires.whole c.requires.clamped in
    let lifted = c.round.ensures area level.rows (liftable level.columns level.rows area g) g.size (omega arith) (inr refl) c.loop-j.invariant.lifted in
    record {
      lifted = lifted;
      taken = c.take_pair.ensures area g (pair_done area level.columns level.rows level.rows c.loop-j.j c.round.new.plane (omega arith) (λ inside. inside) lifted) c.loop-j.invariant.taken;
    }

pub returns-clause-low : goal.returns-clause-low
returns-clause-low c =
    let level = c.args.level in
    whole_low level c.loop-j.j (grid_of level.columns level.rows c.args.plane.now) _ _ _ _ (grid_clamped level.columns level.rows c.args.plane.now c.requires.whole c.requires.clamped)
    c.loop-j-test.false (omega arith) c.loop-j.invariant.taken

pub returns-clause-clamped : goal.returns-clause-clamped
returns-clause-clamped c =
    let level = c.args.level in
    whole_clamped level (grid_of level.columns level.rows c.args.plane.now) _ (grid_clamped level.columns level.rows c.args.plane.now c.requires.whole c.requires.clamped) (returns-clause-low c)

pub returns-clause-hl : goal.returns-clause-hl
returns-clause-hl c =
    let level = c.args.level in
    whole_hl level c.loop-j.j (grid_of level.columns level.rows c.args.plane.now) _ _ _ _ (grid_clamped level.columns level.rows c.args.plane.now c.requires.whole c.requires.clamped)
    c.loop-j-test.false (omega arith) c.loop-j.invariant.taken

pub returns-clause-lh : goal.returns-clause-lh
returns-clause-lh c =
    let level = c.args.level in
    whole_lh level c.loop-j.j (grid_of level.columns level.rows c.args.plane.now) _ _ _ _ (grid_clamped level.columns level.rows c.args.plane.now c.requires.whole c.requires.clamped)
    c.loop-j-test.false (omega arith) c.loop-j.invariant.taken

pub returns-clause-hh : goal.returns-clause-hh
returns-clause-hh c =
    let level = c.args.level in
    whole_hh level c.loop-j.j (grid_of level.columns level.rows c.args.plane.now) _ _ _ _ (grid_clamped level.columns level.rows c.args.plane.now c.requires.whole c.requires.clamped)
    c.loop-j-test.false (omega arith) c.loop-j.invariant.taken
