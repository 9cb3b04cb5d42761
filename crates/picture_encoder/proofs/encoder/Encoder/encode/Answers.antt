use Rattle.std.proofs.Common.{◌≤◌, subst, arith}
use Rattle.codec_terms.specs.declared.picture.Shape.{Shape}
use Rattle.codec_terms.specs.Encode.{shape_of, task_coefficients}
use Rattle.codec_laws.specs.Bounds.{FitBands}
use Rattle.picture_encoder.proofs.Tasks.{size-of, encoding-told, within-told}
use Rattle.picture_encoder.proofs.encoder.Encoder.encode.Goals as goal

pub invariant_of-result : goal.invariant_of-result
invariant_of-result c =
    let task = c.args.task.now in
    let q = task_coefficients task in
    let blocks = c.code.new.self.blocks in
    let coded = c.in_ok-cut.ensures.coded in
    let same = c.in_ok-cut.ensures.shape in
    let told = c.in_ok-cut.ensures.cut in
    let frame : 364 ≤ task.params.limits.frame = omega (arith, task.params.least_frame) in
    let component : 73 ≤ task.params.limits.component = omega (arith, task.params.least_component) in
    let fits = subst (λ (s : Shape). FitBands s q) same coded.fits in
    record {
      bytes_are = encoding-told task blocks.shape c.in_ok-cut.cut c.in_ok-bytes.bytes same told (c.in_ok-bytes.ensures.stream q coded);
      cut_is = told;
      within = within-told task c.in_ok-cut.cut told
          (c.last_cut_laws.ensures.least task.params.limits (shape_of task.params) q (size-of task.params) fits frame component);
    }
