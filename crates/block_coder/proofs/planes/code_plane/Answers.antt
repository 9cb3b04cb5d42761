use Rattle.std.proofs.Common.{ap, ◌∙◌}
use Rattle.block_words.specs.Told.{decisions_of}
use Rattle.block_sets.specs.Rebuilt.{block_of}
use Rattle.block_coder.proofs.Codes.{lower-of, block-small, coded-plane, few-more}
use Rattle.block_coder.proofs.planes.code_plane.Goals as goal

pub returns-clause-coder : goal.returns-clause-coder
returns-clause-coder c =
    let h = c.requires.block in
    let law = c.lower_plane_laws.ensures in
    let done = coded-plane (block_of c.args.block.now) (block-small c.args.block.now h) c.args.index (lower-of c.args.block.now h law.none law.highest law.further c.args.index) c.requires.plane in
    let codes_are = ap decisions_of c.codes.ensures ∙ c.form_plane.ensures.decisions in
    rw (c.requires.coder, codes_are, done) at c.code_all.ensures.ok

pub returns-clause-few : goal.returns-clause-few
returns-clause-few c =
    let h = c.requires.block in
    let law = c.lower_plane_laws.ensures in
    few-more (block_of c.args.block.now) (block-small c.args.block.now h) c.args.index (lower-of c.args.block.now h law.none law.highest law.further c.args.index) c.requires.plane c.form_plane.ensures.few
