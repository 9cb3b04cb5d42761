use Rattle.std.proofs.Common.{◌≡◌, ◌+◌, get_or, leb, ap, ◌∙◌, arith}
use Rattle.std.specs.Int.{from_bool}
use Rattle.xyz_convert.specs.Entries.{code_of}
use Rattle.xyz_convert.proofs.Codes.{code_of-below}
use Rattle.xyz_convert.proofs.Lookups.{near-code, near-small}
use Rattle.xyz_convert.proofs.row.code_at.Goals as goal

pub bounds-above-from : goal.bounds-above-from
bounds-above-from c = omega (arith, near-small c.args.sum c.near_code-y.result c.near_code-y.ensures, c.requires.thresholds.size)

pub overflow_add-result : goal.overflow_add-result
overflow_add-result c =
    let code : c.near_code-y.result + c.from-2.result ≡ code_of c.args.sum =
    ap (λ n. c.near_code-y.result + n) (c.from-2.ensures ∙ ap (λ y. from_bool (leb (get_or c.args.above.now y 0) c.args.sum)) c.from.ensures)
    ∙ near-code c.args.above.now c.args.sum c.near_code-y.result c.requires.thresholds c.requires.sum c.near_code-y.ensures in
    omega (arith, code_of-below c.args.sum)

pub returns : goal.returns
returns c =
    ap (λ n. c.near_code-y.result + n) (c.from-2.ensures ∙ ap (λ y. from_bool (leb (get_or c.args.above.now y 0) c.args.sum)) c.from.ensures)
    ∙ near-code c.args.above.now c.args.sum c.near_code-y.result c.requires.thresholds c.requires.sum c.near_code-y.ensures
