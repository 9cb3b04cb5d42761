use Rattle.std.proofs.Common.{◌≡◌, rules, length}
use Rattle.klv_base.specs.Items.{item}
use Rattle.klv_base.proofs.ReadBack.{read_at-item}
use Rattle.klv_base.proofs.item.write_item.Goals as goal

pub returns-clause-read_back : goal.returns-clause-read_back
returns-clause-read_back c = λ before rest.
    let key = c.args.key in
    let sixteen : length key ≡ 16 = search rules in
    let written : c.from.result ≡ item key c.args.value.now = search rules in
    rw written (read_at-item key c.args.value.now before rest sixteen c.requires)
