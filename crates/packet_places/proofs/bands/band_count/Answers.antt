use Rattle.std.proofs.Common.{◌≡◌, ◌≤◌, refl, arith}
use Rattle.packet_places.proofs.Resolutions.{least, greater}
use Rattle.packet_places.proofs.bands.band_count.Goals as goal

pub returns-then-precinct-eq0-clause-number : goal.returns-then-precinct-eq0-clause-number
returns-then-precinct-eq0-clause-number c =
    let p = c.args.precinct in
    let none : c.args.precinct.resolution ≡ 0 = omega (arith, c.if-precinct-eq0.true) in
    rw (least p.component p.resolution none) refl

pub returns-else-precinct-eq0-clause-number : goal.returns-else-precinct-eq0-clause-number
returns-else-precinct-eq0-clause-number c =
    let p = c.args.precinct in
    let some : 1 ≤ c.args.precinct.resolution = omega (arith, c.if-precinct-eq0.false) in
    rw (greater p.component p.resolution _ some refl) refl
