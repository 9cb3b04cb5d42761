use Rattle.film_printer.proofs.Ascii.{kept-utf8}
use Rattle.film_printer.proofs.canonical.text_value.Goals as goal

pub unreachable-requires : goal.unreachable-requires
unreachable-requires c =
    c.in-Err.ensures.cases.0 (kept-utf8 c.args.rule c.args.bytes.now c.requires.ruled c.requires.kept)
