use Rattle.std.proofs.Common.{length}
use Rattle.raw_frames.proofs.Reading.{short-is, whole-is}
use Rattle.raw_frames.proofs.pixels.read_pixels.Goals as goal

pub returns-then-have-need-clause-cause : goal.returns-then-have-need-clause-cause
returns-then-have-need-clause-cause g c =
    (c.if-have-need.true, λ tells. short-is (g.S.Source.file c.args.source.now c.args.name.now) c.args.at (length c.args.pixels.now) c.args.have (c.requires.there tells) c.if-have-need.true)

pub returns-clause-read : goal.returns-clause-read
returns-clause-read g c = λ tells.
    whole-is (g.S.Source.file c.args.source.now c.args.name.now) c.args.at (length c.args.pixels.now) c.args.have c.read.new.into
    (c.requires.there tells) c.if-have-need.false (c.in_ok-read.ensures.bytes tells)
