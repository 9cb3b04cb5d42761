use Rattle.std.proofs.Common.{◌≡◌, ◌∙◌, ◌++◌, ap, append-nil, length, sym, arith}
use Rattle.mxf_track.specs.Sizes.{segment_count}
use Rattle.mxf_track.proofs.Segments.{first_segments, segments-first, segments-step}
use Rattle.mxf_track.proofs.writer.put_segments.Goals as goal

pub loop-number-init : goal.loop-number-init
unfolding first_segments
loop-number-init c = sym (append-nil c.args.out.now.items)

pub loop-number-preserved : goal.loop-number-preserved
loop-number-preserved c =
    segments-step c.args.facts.now c.args.places.now c.loop-number.number c.min-end.result c.args.out.now.items
    c.loop-number.out.items c.put_segment.new.out.items c.min-end.ensures c.loop-number.invariant c.in_ok-put_segment.ensures

pub returns : goal.returns
returns c =
    let done : c.loop-number.number ≡ segment_count (length c.args.places.now) =
    omega (arith, c.segment_count-number-end.ensures.count) in
    c.loop-number.invariant
    ∙ ap (λ k. c.args.out.now.items ++ first_segments c.args.facts.now c.args.places.now k) done
    ∙ ap (λ s. c.args.out.now.items ++ s) (sym (segments-first c.args.facts.now c.args.places.now))
