use Rattle.std.proofs.Common.{◌*◌, ◌/◌, ◌^◌, ap, ◌∙◌}
use Rattle.codec_terms.specs.Colour.{fifths}
use Rattle.xyz_convert.specs.Entries.{light_of}
use Rattle.xyz_convert.proofs.entries.light_of.Goals as goal

pub returns : goal.returns
unfolding light_of
returns c = c.fifths.ensures ∙ ap (λ s. fifths c.args.power (s * 2 ^ 24 / 65535)) c.from.ensures
