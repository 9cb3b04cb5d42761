use Rattle.std.proofs.Common.{◌≡◌, rules, append_assoc, length}
use Rattle.klv_base.specs.Items.{local_set}
use Rattle.klv_base.proofs.ReadBack.{read_at-local_set}
use Rattle.klv_base.proofs.local_set.write_set.Goals as goal

pub returns-clause-read_back : goal.returns-clause-read_back
returns-clause-read_back c = λ before rest.
    let key = c.args.key in
    let items = c.args.items.now in
    let sixteen : length key ≡ 16 = search rules in
    let written : c.from.result ≡ local_set key items = search (rules, append_assoc) in
    rw written (read_at-local_set key before rest items sixteen c.requires.whole)
