use Rattle.std.proofs.Common.{◌≡◌, ◌∙◌, ◌<◌, ◌+◌, ◌≤◌, sym, ap, arith, [], length, Ok, Err, true, false}
use Rattle.codec_terms.specs.declared.reading.MarkerRefusal.TheVariants.{Field}
use Rattle.codec_terms.specs.MainReading.{number_at}
use Rattle.code_markers.specs.Fields.{rule_of}
use Rattle.code_markers.proofs.Places.{fields_end-short, fields_end-refused, fields_end-accepted, fields_end-none}
use Rattle.code_markers.proofs.field.field_end.Goals as goal

pub returns-then-bytes-at : goal.returns-then-bytes-at
returns-then-bytes-at c =
    let short : length c.args.bytes.now < c.args.at + (rule_of c.args.field).size = omega (arith, c.size-size.ensures.size) in
    sym (fields_end-short c.args.bytes.now (rule_of c.args.field) [] c.args.at short)

pub returns-then-not-accepts : goal.returns-then-not-accepts
returns-then-not-accepts c =
    let b = c.args.bytes.now in
    let rule = rule_of c.args.field in
    let there : c.args.at + rule.size ≤ length b = omega (arith, c.size-size.ensures.size) in
    let number : c.number_at-got.result ≡ number_at b c.args.at rule.size =
    c.number_at-got.ensures.is ∙ ap (number_at b c.args.at) c.size-size.ensures.size in
    let refused : rule.accepts (number_at b c.args.at rule.size) ≡ false =
    ap rule.accepts (sym number) ∙ (sym c.accepts.ensures ∙ c.if-not-accepts.true) in
    sym (fields_end-refused b rule [] c.args.at there refused ∙ ap (λ n. Err (Field c.args.at n)) (sym number))

pub returns : goal.returns
returns c =
    let b = c.args.bytes.now in
    let rule = rule_of c.args.field in
    let there : c.args.at + rule.size ≤ length b = omega (arith, c.size-size.ensures.size) in
    let number : c.number_at-got.result ≡ number_at b c.args.at rule.size =
    c.number_at-got.ensures.is ∙ ap (number_at b c.args.at) c.size-size.ensures.size in
    let accepted : rule.accepts (number_at b c.args.at rule.size) ≡ true =
    ap rule.accepts (sym number) ∙ (sym c.accepts.ensures ∙ c.if-not-accepts.false) in
    sym (fields_end-accepted b rule [] c.args.at there accepted ∙ fields_end-none b (c.args.at + rule.size)
    ∙ ap (λ n. Ok (c.args.at + n)) (sym c.size-size.ensures.size))
