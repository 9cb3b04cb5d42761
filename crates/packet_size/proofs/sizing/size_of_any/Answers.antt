use Rattle.std.proofs.Common.{◌∙◌, ◌+◌, sym, ap₂}
use Rattle.packet_size.proofs.SizesAlone.{size-empty, size-full}
use Rattle.packet_size.proofs.sizing.size_of_any.Goals as goal

pub returns-then-not-is_full-clause-size : goal.returns-then-not-is_full-clause-size
returns-then-not-is_full-clause-size c = size-empty c.args.bands.now (sym c.is_full.ensures ∙ c.if-not-is_full.true)

pub returns-clause-size : goal.returns-clause-size
returns-clause-size c =
    ap₂ (λ m n. m + n) c.header_length.ensures.length c.body_length.ensures.length
    ∙ size-full c.args.bands.now (sym c.is_full.ensures ∙ c.if-not-is_full.false)
