use Rattle.std.proofs.Common.{◌≡◌, ◌≤◌, refl, arith}
use Rattle.packet_places.proofs.Resolutions.{least_at, first_at, second_at, third_at}
use Rattle.packet_places.proofs.bands.resolution_band.Goals as goal
use Rattle.packet_places.proofs.bands.resolution_band.Goals.{in-0, in-1, in_default}

pub returns-then-precinct-eq0-clause-band : goal.returns-then-precinct-eq0-clause-band
returns-then-precinct-eq0-clause-band c =
    let none : c.args.precinct.resolution ≡ 0 = omega (arith, c.if-precinct-eq0.true) in
    least_at c.args.precinct.component c.args.precinct.resolution c.args.i none c.requires.inside

pub returns-clause-band : goal.returns-clause-band
returns-clause-band c =
    let some : 1 ≤ c.args.precinct.resolution = omega (arith, c.if-precinct-eq0.false) in
    let p = c.args.precinct in
    elim c.match-i.branch [
      | in-0 w ↦ rw (w.kind-is) (first_at p.component p.resolution c.args.i _ some refl (omega (arith, w.in-0)))
      | in-1 w ↦ rw (w.kind-is) (second_at p.component p.resolution c.args.i _ some refl (omega (arith, w.in-1)))
      | in_default w ↦ rw (w.kind-is) (third_at p.component p.resolution c.args.i _ some refl c.requires.inside (omega (arith, w.in_default)))
    ]
