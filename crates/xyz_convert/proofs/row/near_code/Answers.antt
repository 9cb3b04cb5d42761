use Rattle.xyz_convert.proofs.Lookups.{is-fine, is-coarse}
use Rattle.xyz_convert.proofs.row.near_code.Goals as goal
use Rattle.xyz_convert.proofs.row.near_code.Goals.{then-sum-lt-FINE, else-sum-lt-FINE}

pub returns : goal.returns
returns c =
    elim c.if-sum-lt-FINE.branch [
      | then-sum-lt-FINE w ↦ rw w.at-is (is-fine c.args.code.now c.args.sum c.requires.codes w.if-sum-lt-FINE.true)
      | else-sum-lt-FINE w ↦ rw w.at-is (is-coarse c.args.code.now c.args.sum c.requires.codes w.if-sum-lt-FINE.false c.requires.sum)
    ]
