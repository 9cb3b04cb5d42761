use Rattle.std.proofs.Common.{◌∙◌, ℕ, ◌+◌, ◌*◌, ◌%◌, refl, ap}
use Rattle.block_packets.proofs.ChangedPlace.{changed-high, changed-low}
use Rattle.block_packets.proofs.changes.place_changed.Goals as goal
use Rattle.block_packets.proofs.changes.place_changed.Goals.{then-rank-lt45, else-rank-lt45}

pub returns-clause-place : goal.returns-clause-place
returns-clause-place c =
    elim c.if-rank-lt45.branch [
      | then-rank-lt45 w ↦ ap (λ (r : ℕ). 6 * ((c.args.cut % 48 + 1) % 3) + r) w.resolution-is ∙ changed-high c.args.cut (c.args.cut % 48) refl w.if-rank-lt45.true
      | else-rank-lt45 w ↦ ap (λ (r : ℕ). 6 * ((c.args.cut % 48 + 1) % 3) + r) w.resolution-is ∙ changed-low c.args.cut (c.args.cut % 48) refl w.if-rank-lt45.false
    ]
