use Rattle.std.proofs.Common.{◌≡◌, ◌∙◌, ◌∷◌, rules, length, refl}
use Rattle.std.specs.Int.{bytes_high_first}
use Rattle.klv_base.proofs.ReadBack.{head_written, read_at-key_length}
use Rattle.klv_base.proofs.item.key_length.Goals as goal

pub returns-clause-bytes : goal.returns-clause-bytes
returns-clause-bytes c =
    let key = c.args.key in
    let n = c.args.value_length in
    let sixteen : length key ≡ 16 = search rules in
    let behind : c.copy_from_slice-2.new.self ≡ 0x83 ∷ bytes_high_first 3 n = c.copy_from_slice-2.ensures.after ∙ rw c.to_be_bytes.ensures refl in
    head_written key c.copy_from_slice.new.self c.copy_from_slice-2.new.self n sixteen c.copy_from_slice.ensures.after behind

pub returns-clause-read_back : goal.returns-clause-read_back
returns-clause-read_back c = λ before rest.
    let key = c.args.key in
    let n = c.args.value_length in
    let sixteen : length key ≡ 16 = search rules in
    let behind : c.copy_from_slice-2.new.self ≡ 0x83 ∷ bytes_high_first 3 n = c.copy_from_slice-2.ensures.after ∙ rw c.to_be_bytes.ensures refl in
    rw (head_written key c.copy_from_slice.new.self c.copy_from_slice-2.new.self n sixteen c.copy_from_slice.ensures.after behind)
    (read_at-key_length key before rest n sixteen c.requires)
