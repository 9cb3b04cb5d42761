use Rattle.std.proofs.Common.{◌∙◌, length, ap, sym}
use Rattle.track_terms.proofs.HeadSizes.{length-metadata}
use Rattle.mxf_header.proofs.writer.put_metadata.Goals as goal

pub returns-clause-end : goal.returns-clause-end
returns-clause-end c =
    length-metadata c.args.facts.now c.args.footer
    (ap (λ facts. length facts.asset) (sym c.facts.view_is) ∙ c.facts.invariant.asset_length)
