use Rattle.std.proofs.Common.{ℕ, ◌∙◌, sym, subst, arith}
use Rattle.block_packets.specs.Coded.{AreCodedBlocks}
use Rattle.least_cut.proofs.Steps.{told-false, told-true, coded-above, moved}
use Rattle.least_cut.proofs.find.search_down.Goals as goal

pub is_done-requires : goal.is_done-requires
is_done-requires c =
    let r = c.requires.of in
    let h = c.loop-limits.invariant.down r.0 r.1 r.2.0 r.2.1 r.2.2 in
    record { of = (r.0, c.loop-limits.blocks.shape, r.1, h.0) }

pub next_cut-requires : goal.next_cut-requires
next_cut-requires c =
    let r = c.requires.of in
    let h = c.loop-limits.invariant.down r.0 r.1 r.2.0 r.2.1 r.2.2 in
    (told-false _ _ c.is_done.result c.loop-limits-test.true (c.is_done.ensures r.0 c.loop-limits.blocks.shape r.1 h.0)).0

pub code_plane_of-requires-clause-cut : goal.code_plane_of-requires-clause-cut
code_plane_of-requires-clause-cut c =
    let r = c.requires.of in
    let h = c.loop-limits.invariant.down r.0 r.1 r.2.0 r.2.1 r.2.2 in
    let opened = told-false _ _ c.is_done.result c.loop-limits-test.true (c.is_done.ensures r.0 c.loop-limits.blocks.shape r.1 h.0) in
    omega (arith, c.next_cut.ensures, h.0.reached, h.0.last, opened.0)

pub code_plane_of-requires-clause-shape : goal.code_plane_of-requires-clause-shape
code_plane_of-requires-clause-shape c = c.requires.shape ∙ sym c.loop-limits.invariant.shape

pub code_plane_of-requires-clause-of : goal.code_plane_of-requires-clause-of
code_plane_of-requires-clause-of c =
    let r = c.requires.of in
    let l = c.loop-limits in
    let h = l.invariant.down r.0 r.1 r.2.0 r.2.1 r.2.2 in
    let opened = told-false _ _ c.is_done.result c.loop-limits-test.true (c.is_done.ensures r.0 l.blocks.shape r.1 h.0) in
    (r.1, (r.2.0, coded-above r.1 l.blocks l.search c.next_cut.result opened.0 opened.1 c.next_cut.ensures h.1))

pub with_next-search-requires : goal.with_next-search-requires
with_next-search-requires c =
    let r = c.requires.of in
    let l = c.loop-limits in
    let q = r.1 in
    let h = l.invariant.down r.0 r.1 r.2.0 r.2.1 r.2.2 in
    let opened = told-false _ _ c.is_done.result c.loop-limits-test.true (c.is_done.ensures r.0 l.blocks.shape r.1 h.0) in
    let coded = c.in_ok-code_plane_of.ensures.coded r.1 r.2.0 (coded-above r.1 l.blocks l.search c.next_cut.result opened.0 opened.1 c.next_cut.ensures h.1) in
    record {
      above = opened.0;
      level = opened.1;
      of = (
        r.0,
        r.1,
        (
          moved c.args.limits r.0 r.1 l.search l.blocks c.code_plane_of.new.blocks c.in_ok-code_plane_of.ensures.shape h.0,
          subst (λ (n : ℕ). AreCodedBlocks q n c.code_plane_of.new.blocks) c.next_cut.ensures coded,
        ),
      );
    }

pub loop-limits-preserved : goal.loop-limits-preserved
loop-limits-preserved c =
    let l = c.loop-limits in
    let after = c.code_plane_of.new.blocks in
    record {
      shape = c.in_ok-code_plane_of.ensures.shape ∙ l.invariant.shape;
      down = λ first q sets s coded.
          let h = l.invariant.down first q sets s coded in
          let opened = told-false _ _ c.is_done.result c.loop-limits-test.true (c.is_done.ensures first l.blocks.shape q h.0) in
          let further = c.in_ok-code_plane_of.ensures.coded q sets (coded-above q l.blocks l.search c.next_cut.result opened.0 opened.1 c.next_cut.ensures h.1) in
          let here = subst (λ (n : ℕ). AreCodedBlocks q n after) c.next_cut.ensures further in (
            c.with_next-search.ensures.of first q (moved c.args.limits first q l.search l.blocks after c.in_ok-code_plane_of.ensures.shape h.0) here,
            subst (λ (n : ℕ). AreCodedBlocks q n after) (sym c.with_next-search.ensures.floors) here,
          );
    }

pub loop-limits-smaller : goal.loop-limits-smaller
loop-limits-smaller c =
    let r = c.requires.of in
    let l = c.loop-limits in
    let h = l.invariant.down r.0 r.1 r.2.0 r.2.1 r.2.2 in
    let opened = told-false _ _ c.is_done.result c.loop-limits-test.true (c.is_done.ensures r.0 l.blocks.shape r.1 h.0) in
    omega (arith, c.with_next-search.ensures.floors, opened.0, opened.1)

pub returns-clause-down : goal.returns-clause-down
returns-clause-down c = λ first q sets s coded.
    let l = c.loop-limits in
    let h = l.invariant.down first q sets s coded in
    record {
      found = h.0;
      none = told-true _ _ c.is_done.result c.loop-limits-test.false (c.is_done.ensures first l.blocks.shape q h.0);
      coded = h.1;
    }
