use Rattle.std.proofs.Common.{◌∙◌, ◌<◌, ◌^◌, ℕ, ◌++◌, List, ap, subst, arith}
use Rattle.codec_terms.specs.declared.picture.Shape.{Shape}
use Rattle.codec_terms.specs.Codestream.{main_header, part_length}
use Rattle.codec_terms.specs.StreamReading.{stream_read}
use Rattle.codec_laws.specs.Bounds.{IsPictureSize}
use Rattle.cut_laws.proofs.Lengths.{part-bound}
use Rattle.cinema_stream.proofs.Written.{stream-written}
use Rattle.cinema_stream.proofs.stream.stream_at.Goals as goal

pub returns-clause-stream : goal.returns-clause-stream
returns-clause-stream c = λ q coded.
    let sizes = c.sizes_at-sizes.ensures q coded in
    stream-written c.args.blocks.now.shape q c.args.cut c.sizes_at-sizes.result.parts c.in_ok-out.out c.push_bytes.new.out c.push_parts.new.out c.push_bytes-2.new.out
    sizes.parts c.in_ok-out.ensures
    (c.in_ok-push_bytes.ensures ∙ ap (λ (bytes : List ℕ). c.in_ok-out.out ++ bytes)
    (c.as_slice.ensures ∙ c.in_ok-header.ensures.bytes ∙ ap (λ (s : Shape). main_header s c.sizes_at-sizes.result.parts c.args.cut) c.shape.ensures.shape))
    (c.in_ok-push_parts.ensures q coded sizes.parts)
    c.in_ok-push_bytes-2.ensures

pub returns-clause-read_back : goal.returns-clause-read_back
returns-clause-read_back c = λ q coded.
    let shape = c.args.blocks.now.shape in
    let size : IsPictureSize c.args.blocks.now.shape = subst IsPictureSize c.shape.ensures.shape c.shape.ensures.size in
    let small : c.args.cut < 2 ^ 32 = omega arith in
    let few : (component : ℕ) → component < 3 → part_length c.args.blocks.now.shape q c.args.cut component < 2 ^ 32 =
    λ component inside. omega (arith, part-bound c.args.blocks.now.shape q c.args.cut component size coded.fits inside) in
    ap stream_read (returns-clause-stream c q coded)
    ∙ c.stream_read_laws.ensures.stream shape q c.args.cut size coded.whole coded.fits small (few 0 (omega arith)) (few 1 (omega arith)) (few 2 (omega arith))
