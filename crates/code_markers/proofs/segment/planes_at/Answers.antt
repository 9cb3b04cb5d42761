use Rattle.std.proofs.Common.{◌∙◌, ◌<◌, sym, arith}
use Rattle.std.proofs.lemmas.List.{ext_get_or}
use Rattle.codec_terms.specs.MainReading.{planes_at}
use Rattle.code_markers.proofs.Segments.{planes_at-index}
use Rattle.code_markers.proofs.segment.planes_at.Goals as goal

pub returns : goal.returns
returns c =
    ext_get_or 0 c.loop-i.plane-items (planes_at c.args.bytes.now c.args.at) c.loop-i-test.array_long
    (λ i p.
    let below : i < 16 = omega (arith, c.loop-i-test.array_long) in
    c.loop-i.invariant i (omega (arith, c.loop-i-test.false)) ∙ sym (planes_at-index c.args.bytes.now c.args.at i below))
