use Rattle.std.proofs.Common.{◌≡◌, ◌∙◌, ◌+◌, ◌<◌, rules, arith, sym, ap, length, Err}
use Rattle.klv_base.specs.declared.reader.KlvRefusal.TheVariants.{Truncated}
use Rattle.klv_base.proofs.Places.{is_split, read_at-short, read_at-no_form, read_at-form_refused, read_at-length_cut, read_at-there}
use Rattle.klv_base.proofs.reader.read_key_length.Goals as goal

pub returns-in_err-rest : goal.returns-in_err-rest
returns-in_err-rest c =
    let past = rw c.in_err-rest.ensures.ok_part at c.get.ensures.lookup in
    let short : length c.args.bytes.now < c.args.at + 17 = omega (arith, past.0) in
    let value = rw c.in_err-rest.ensures.ok_part at c.in_err-rest.ensures.value in
    let told : c.in_err-rest.field-0.0 ≡ Truncated (length c.args.bytes.now) = cc in
    (let same : c.from_residual.result ≡ Err c.in_err-rest.field-0.0 = search rules in same)
    ∙ ap Err told
    ∙ sym (read_at-short c.args.bytes.now c.args.at short)

pub returns-in_err-key : goal.returns-in_err-key
returns-in_err-key c =
    let rest = rw c.in_ok-rest.ensures.ok_part at c.get.ensures.lookup in
    let none = rw c.in_err-key.ensures.ok_part at c.split_first_chunk.ensures.cases in
    let short : length c.args.bytes.now < c.args.at + 17 = omega (arith, rest.0.3, none) in
    let value = rw c.in_err-key.ensures.ok_part at c.in_err-key.ensures.value in
    let told : c.in_err-key.field-0.0 ≡ Truncated (length c.args.bytes.now) = cc in
    (let same : c.from_residual-in_err-key.result ≡ Err c.in_err-key.field-0.0 = search rules in same)
    ∙ ap Err told
    ∙ sym (read_at-short c.args.bytes.now c.args.at short)

pub returns-in-empty : goal.returns-in-empty
returns-in-empty c =
    let rest = rw c.in_ok-rest.ensures.ok_part at c.get.ensures.lookup in
    let parts = rw c.in_ok-key.ensures.ok_part at c.split_first_chunk.ensures.cases in
    let split = is_split c.args.bytes.now _ _ _ c.args.at rest.0.2 rest.0.3 parts.0 parts.1 parts.2 in
    sym (read_at-no_form _ _ _ _ split c.in-empty.len_below)

pub returns-in-len1-up : goal.returns-in-len1-up
returns-in-len1-up c =
    let rest = rw c.in_ok-rest.ensures.ok_part at c.get.ensures.lookup in
    let parts = rw c.in_ok-key.ensures.ok_part at c.split_first_chunk.ensures.cases in
    let split = is_split c.args.bytes.now _ _ _ c.args.at rest.0.2 rest.0.3 parts.0 parts.1 parts.2 in
    sym (read_at-form_refused _ _ _ _ split c.in-len1-up.len_at_least c.if-form.true)

pub returns-in-len4-up : goal.returns-in-len4-up
returns-in-len4-up c =
    let rest = rw c.in_ok-rest.ensures.ok_part at c.get.ensures.lookup in
    let parts = rw c.in_ok-key.ensures.ok_part at c.split_first_chunk.ensures.cases in
    let split = is_split c.args.bytes.now _ _ _ c.args.at rest.0.2 rest.0.3 parts.0 parts.1 parts.2 in
    sym (read_at-there _ _ _ _ split c.from_be_bytes-length.result c.in-len4-up.len_at_least c.if-form.false (omega arith))

pub returns-in_default : goal.returns-in_default
returns-in_default c =
    let rest = rw c.in_ok-rest.ensures.ok_part at c.get.ensures.lookup in
    let parts = rw c.in_ok-key.ensures.ok_part at c.split_first_chunk.ensures.cases in
    let split = is_split c.args.bytes.now _ _ _ c.args.at rest.0.2 rest.0.3 parts.0 parts.1 parts.2 in
    sym (read_at-length_cut _ _ _ _ split c.in_default.len_at_least c.if-form.false c.in_default.len_below)
