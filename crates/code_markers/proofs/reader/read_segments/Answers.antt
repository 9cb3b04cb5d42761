use Rattle.std.proofs.Common.{◌∙◌, ◌-◌, ◌+◌, ◌<◌, sym, ap, arith, length, Ok}
use Rattle.std.proofs.lemmas.Result.{err_from_is_err_and}
use Rattle.codec_terms.specs.MainReading.{segments_read, may_follow}
use Rattle.code_markers.specs.Heads.{so_far}
use Rattle.code_markers.proofs.Places.{marker_at-there}
use Rattle.code_markers.proofs.Segments.{segments_read-enough, segments_read-refused, segments_read-finished, segments_read-segment_refused, segments_read-on, segment_end-ends}
use Rattle.code_markers.proofs.reader.read_segments.Goals as goal

pub loop-marker-init : goal.loop-marker-init
loop-marker-init c =
    let b = c.args.bytes.now in
    record {
      within = c.requires;
      same = sym (segments_read-enough b (length b - c.args.start) (length b) (so_far c.args.size) c.args.start (omega arith) (omega arith));
    }

pub returns-in_err-marker : goal.returns-in_err-marker
returns-in_err-marker c =
    let p = err_from_is_err_and c.from_residual.result c.from_residual.ensures.1 in
    let b = c.args.bytes.now in
    rw (p.1, p.2) (sym (c.loop-marker.invariant.same ∙ segments_read-refused b (length b - c.loop-marker.at) (so_far c.loop-marker.head) c.loop-marker.at c.in_err-marker.field-0.0 (omega arith) (sym c.in_err-marker.ensures)))

pub returns-then-marker : goal.returns-then-marker
returns-then-marker c =
    let b = c.args.bytes.now in
    ap Ok c.finished.ensures ∙ sym (c.loop-marker.invariant.same ∙ segments_read-finished b (length b - c.loop-marker.at) (so_far c.loop-marker.head) c.loop-marker.at c.in_ok-marker.marker (omega arith) (sym c.in_ok-marker.ensures) c.if-marker.true)

pub returns-in_err-at : goal.returns-in_err-at
returns-in_err-at c =
    let p = err_from_is_err_and c.from_residual-in_err-at.result c.from_residual-in_err-at.ensures.1 in
    let b = c.args.bytes.now in
    rw (p.1, p.2) (sym (c.loop-marker.invariant.same ∙ segments_read-segment_refused b (length b - c.loop-marker.at) (so_far c.loop-marker.head) c.loop-marker.at c.in_ok-marker.marker c.in_err-at.field-0.0 (omega arith) (sym c.in_ok-marker.ensures) c.if-marker.false (sym c.in_err-at.ensures.end)))

pub loop-marker-smaller : goal.loop-marker-smaller
loop-marker-smaller c =
    let b = c.args.bytes.now in
    let there = marker_at-there b (may_follow b (so_far c.loop-marker.head)) c.loop-marker.at c.in_ok-marker.marker (sym c.in_ok-marker.ensures) in
    let ends = segment_end-ends b c.in_ok-marker.marker (c.loop-marker.at + 2) c.in_ok-at.at there (sym c.in_ok-at.ensures.end) in
    let less : length b - c.in_ok-at.at < length b - c.loop-marker.at = omega (arith, there, ends.on) in
    less

pub loop-marker-preserved : goal.loop-marker-preserved
loop-marker-preserved c =
    let b = c.args.bytes.now in
    let there = marker_at-there b (may_follow b (so_far c.loop-marker.head)) c.loop-marker.at c.in_ok-marker.marker (sym c.in_ok-marker.ensures) in
    let ends = segment_end-ends b c.in_ok-marker.marker (c.loop-marker.at + 2) c.in_ok-at.at there (sym c.in_ok-at.ensures.end) in
    record {
      within = ends.within;
      same = c.loop-marker.invariant.same
          ∙ segments_read-on b (so_far c.loop-marker.head) c.loop-marker.at c.in_ok-marker.marker c.in_ok-at.at (sym c.in_ok-marker.ensures) c.if-marker.false (sym c.in_ok-at.ensures.end)
          ∙ ap (λ head. segments_read b (length b - c.in_ok-at.at) head c.in_ok-at.at) (sym c.in_ok-at.ensures.head);
    }
