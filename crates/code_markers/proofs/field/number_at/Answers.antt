use Rattle.std.proofs.Common.{arith, ◌∙◌, ◌<◌, ◌≡◌, ◌^◌}
use Rattle.codec_terms.specs.MainReading.{number_at}
use Rattle.code_markers.proofs.Numbers.{number_at-slice, number_at-fits, within_four}
use Rattle.code_markers.proofs.field.number_at.Goals as goal

pub overflow_cast-result : goal.overflow_cast-result
overflow_cast-result c =
    let b = c.args.bytes.now in
    let is : c.read_uint.result ≡ number_at b c.args.at c.args.size =
    c.read_uint.ensures ∙ number_at-slice b c.args.at c.args.size c.requires.room in
    let small : number_at b c.args.at c.args.size < 2 ^ 32 =
    within_four c.args.size (number_at b c.args.at c.args.size) c.requires.high
    (number_at-fits b c.args.at c.args.size c.requires.room (λ k. omega (arith, c.type_inv.bytes k))) in
    omega arith

pub returns-clause-is : goal.returns-clause-is
returns-clause-is c = c.read_uint.ensures ∙ number_at-slice c.args.bytes.now c.args.at c.args.size c.requires.room

pub returns-clause-fits : goal.returns-clause-fits
returns-clause-fits c =
    rw (c.read_uint.ensures ∙ number_at-slice c.args.bytes.now c.args.at c.args.size c.requires.room)
    (number_at-fits c.args.bytes.now c.args.at c.args.size c.requires.room (λ k. omega (arith, c.type_inv.bytes k)))
