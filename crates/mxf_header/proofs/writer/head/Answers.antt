use Rattle.std.proofs.Common.{◌≡◌, ◌∙◌, ◌++◌, length, ap, sym, rules, arith}
use Rattle.track_terms.specs.Head as spec
use Rattle.track_terms.proofs.HeadSizes.{length-head, metadata_end-le}
use Rattle.mxf_header.proofs.writer.head.Goals as goal

pub put_fill-requires : goal.put_fill-requires
put_fill-requires c =
    let size =
    ap length (c.in_ok-put_metadata.ensures.bytes ∙ ap (λ o. o ++ spec.metadata c.args.facts.now c.args.footer) c.in_ok-out.ensures.items) in
    omega (arith, size, c.in_ok-put_metadata.ensures.end, metadata_end-le c.args.facts.now.kind)

pub returns-clause-size : goal.returns-clause-size
returns-clause-size c =
    let bytes : c.from.result ≡ spec.head c.args.facts.now c.args.footer = search rules in
    ap length bytes
    ∙ length-head c.args.facts.now c.args.footer
    (ap (λ facts. length facts.asset) (sym c.facts.view_is) ∙ c.facts.invariant.asset_length)
