use Rattle.std.proofs.Common.{◌≡◌, ◌*◌, inl, inr, arith}
use Rattle.packet_scan.proofs.BlockSteps.{empty_band}
use Rattle.packet_scan.proofs.band.read_band.Goals as goal

pub returns-then-shape-eq0-clause-read : goal.returns-then-shape-eq0-clause-read
returns-then-shape-eq0-clause-read c =
    let none : c.args.shape.columns * c.args.shape.rows ≡ 0 = elim c.then-shape-eq0.either [
      | inl h ↦ rw h (omega arith)
      | inr h ↦ rw h.1 (omega arith)
    ] in
    empty_band c.args.bytes.now c.args.sizes.now c.args.shape c.args.place.now none
