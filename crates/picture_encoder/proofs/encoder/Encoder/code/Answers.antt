use Rattle.std.proofs.Common.{◌*◌, ◌∙◌, sym, ap, subst, length}
use Rattle.codec_terms.specs.declared.picture.Shape.{Shape}
use Rattle.codec_terms.specs.Encode.{coefficients, task_coefficients}
use Rattle.codec_laws.specs.Bounds.{IsPictureSize}
use Rattle.least_cut.specs.Begun.{IsBegun}
use Rattle.picture_encoder.proofs.Tasks.{size-of, begun-task, cut-told}
use Rattle.picture_encoder.proofs.encoder.Encoder.code.Goals as goal

pub begin-requires-clause-size : goal.begin-requires-clause-size
begin-requires-clause-size c = subst IsPictureSize (sym c.requires.shape) (size-of c.args.task.now.params)

pub begin-requires-clause-whole : goal.begin-requires-clause-whole
begin-requires-clause-whole c =
    ap length c.as_slice.ensures ∙ c.args.task.now.whole ∙ ap (λ (s : Shape). s.width * s.height * 6) (sym c.requires.shape)

pub find_least_cut-requires-clause-begun : goal.find_least_cut-requires-clause-begun
find_least_cut-requires-clause-begun c =
    let bands = c.args.self.now.bands in
    (coefficients bands.shape bands.power c.as_slice.result.now, c.begin.ensures.begun)

pub returns-clause-cut : goal.returns-clause-cut
returns-clause-cut c =
    let bands = c.args.self.now.bands in
    let task = c.args.task.now in
    let begun : IsBegun (task_coefficients task) c.begin.new.sets c.begin.new.blocks =
    begun-task task bands.shape bands.power c.as_slice.result.now c.begin.new.sets c.begin.new.blocks c.requires.shape (c.args.self.now.power_is ∙ c.requires.power)
    c.as_slice.ensures c.begin.ensures.begun in
    cut-told task c.begin.new.blocks.shape c.in_ok-cut.cut (c.begin.ensures.blocks_shape ∙ c.requires.shape) (c.in_ok-cut.ensures.least (task_coefficients task) begun)

pub returns-clause-coded : goal.returns-clause-coded
returns-clause-coded c =
    let bands = c.args.self.now.bands in
    let task = c.args.task.now in
    let begun : IsBegun (task_coefficients task) c.begin.new.sets c.begin.new.blocks =
    begun-task task bands.shape bands.power c.as_slice.result.now c.begin.new.sets c.begin.new.blocks c.requires.shape (c.args.self.now.power_is ∙ c.requires.power)
    c.as_slice.ensures c.begin.ensures.begun in
    c.in_ok-cut.ensures.coded (task_coefficients task) begun
